-- The text of a drill: its summary, or its journal.
use Rattle.std.specs.Prelude.{◌≡◌, ℕ, Bool, List, [], ◌∷◌, ◌++◌, count_by, length, codes, decimal, if◌then◌else◌}
use Rattle.lb_model.specs.Journal.{chose}
use Rattle.lb_model.specs.declared.journal.Entry.{Entry}
use Rattle.lb_model.specs.declared.segment.Segment.{Segment}
use Rattle.lb_book.specs.Journal.{IsSegmentOf, Journal}
use Rattle.journal_text.specs.SegmentText.{segment_text}
use Rattle.drill.specs.Requests.{bodies_of}

-- a word, a blank, a number and LF
abbrev pub summary_line : (word : List ℕ) → (number : ℕ) → List ℕ
summary_line word number = word ++ (32 ∷ (decimal number ++ 10 ∷ []))

-- how many entries of a journal chose a member
abbrev pub choices_of : (member : ℕ) → List Entry → ℕ
choices_of member h = count_by (λ e. chose member e.answer) h

-- the receipts were compared with the journal; of a drill over passes the line has their number, which is that of the threads
abbrev pub compared_line : (threads : ℕ) → (passes : Bool) → List ℕ
compared_line threads passes = if passes then summary_line (codes "passes") threads else codes "receipts equal\n"

-- The summary of a drill with this journal: the count of its requests, how often a and b were chosen, the bytes of the
-- replies' bodies, and the count of the entries, all of which are good.
abbrev pub summary_text : (seed threads requests : ℕ) → (passes : Bool) → List Entry → List ℕ
summary_text seed threads requests passes h =
    summary_line (codes "requests") requests
    ++ (summary_line (codes "a") (choices_of 0 h)
    ++ (summary_line (codes "b") (choices_of 1 h)
    ++ (summary_line (codes "body") (bodies_of seed requests)
    ++ (summary_line (codes "entries") (length h)
    ++ (compared_line threads passes
    ++ summary_line (codes "journal good") (length h))))))

-- the text of a Book's journal, under the name of the drill's balancer
abbrev pub IsJournalText : Journal → (text : List ℕ) → Type 0
IsJournalText b text = (s : Segment) × IsSegmentOf b s × (text ≡ segment_text (codes "lb") s)
