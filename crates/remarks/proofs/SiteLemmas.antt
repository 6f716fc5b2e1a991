-- The remarks on a site that was judged, by the files that were read.
use Rattle.std.proofs.Common.{◌≡◌, ℕ, ◌-◌, ◌≤◌, Bool, List, [], ◌∷◌, length, take, drop, get_or, arith, ◌∙◌, ap}
use Rattle.std.proofs.lemmas.List.{take_all}
use Rattle.site_reports.specs.declared.found.SiteFound.{SiteFound}
use Rattle.remarks.specs.declared.read_file.ReadFile.{ReadFile}
use Rattle.remarks.specs.Remarks.{remarks_of}
use Rattle.remarks.specs.Said.{SaysFound, first_name}

-- the remarks by the names of two files are those by the names of the files that were read
pub says_found : (effects : Bool) (f : SiteFound) (reads : List ReadFile) (first : ReadFile) (second : List ℕ) → 1 ≤ length reads
    → first ≡ get_or reads 0 first → second ≡ first_name (take (length reads - 1) (drop 1 reads)) → SaysFound effects f reads (remarks_of effects first.name second f)
says_found effects f [] first second some is same = absurd (omega arith)
says_found effects f (read ∷ reads) first second some is same =
    let it : first ≡ read = is in
    let rest : second ≡ first_name reads = same ∙ ap first_name (take_all (length (read ∷ reads) - 1) reads (omega arith)) in
    ap (λ (r : ReadFile). remarks_of effects r.name second f) it ∙ ap (λ (n : List ℕ). remarks_of effects read.name n f) rest
