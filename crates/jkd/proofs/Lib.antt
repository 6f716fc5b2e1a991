mod ProcessLaws
mod WithinLaws
mod WordLaws
