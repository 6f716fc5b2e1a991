-- The numbers of the formats and of a site. The code has each as a constant of its own, which is compared with it here.
use Rattle.std.specs.Prelude.{ℕ}

-- 2 to the 48th: a journal's numbers, those of the Returns to come among them.
abbrev pub most_numbers : ℕ
most_numbers = 281474976710656

-- 2 to the 44th: the bytes of both bodies that a Return tells.
abbrev pub most_bytes : ℕ
most_bytes = 17592186044416

-- The rules of a Book that runs: those whose asks know mount terms.
abbrev pub modern_rules : ℕ
modern_rules = 2

-- The members of a balancer.
abbrev pub most_members : ℕ
most_members = 64

-- The balancers of a site.
abbrev pub most_balancers : ℕ
most_balancers = 1024

-- A day: the longest period, in seconds.
abbrev pub most_seconds : ℕ
most_seconds = 86400
