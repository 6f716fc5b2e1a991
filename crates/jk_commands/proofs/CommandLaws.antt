-- How a command that asks for workers or threads ends.
use Rattle.std.proofs.Common.{ℕ, ◌≡◌, ◌≢◌, ◌⊎◌, true, false, ◌||◌, Bool, List, [], ◌∷◌, Option, Result, Ok, inl, inr, refl, sym, ◌∙◌, arith}
use Rattle.ajp_container.specs.declared.worker_ends.ContainerWorker.{ContainerWorker}
use Rattle.ajp_container.specs.declared.worker_ends.ContainerWorker.TheVariants as container
use Rattle.drill.specs.Written.{Lacked, RunsDrill, Told, WritesTold}
use Rattle.drill.specs.declared.writing.DrillEnd.{DrillEnd}
use Rattle.jk_cli.specs.declared.order.Order.{Order}
use Rattle.jk_cli.specs.declared.order.Order.TheVariants as order
use Rattle.jk_cli.specs.declared.order.WordsError.{WordsError}
use Rattle.jk_io.specs.Told.{Rose}
use Rattle.jk_server.specs.Commands.{CommandSide, ContainsLinks, Formatted, NoFormat, RunsContainer, RunsLogged, DoesServe, ServesFiles, Unformatted, Unread, Refused, Served, Works, WritesLine, NoGear, NoRoom, Ran}
use Rattle.jk_server.specs.Ends.{end_of_closing, end_of_container, end_of_run, status_of as served_number}
use Rattle.gear_parts.specs.Wants.{GearWants}
use Rattle.gear_parts.specs.Worlds.{shown_to, Tells, WorldSide}
use Rattle.jk_server.specs.declared.orders.ends.CommandEnd.{CommandEnd}
use Rattle.jk_server.specs.declared.orders.ends.CommandEnd.TheVariants as server
use Rattle.jk_server.specs.declared.part.WorkerEnd.{WorkerEnd}
use Rattle.jk_server.specs.declared.part.WorkerEnd.TheVariants as worker
use Rattle.jk_server.specs.declared.runs.ends.Closing.{Closing}
use Rattle.jk_server.specs.declared.runs.ends.Closing.TheVariants as closing
use Rattle.plain_commands.specs.Endings.{number_of, EndsSo, PlainSide}
use Rattle.plain_commands.specs.Plain.{is_plain, readings}
use Rattle.plain_commands.specs.declared.plain.PlainEnd.{PlainEnd}
use Rattle.plain_commands.specs.declared.plain.PlainEnd.TheVariants as plain
use Rattle.site_reports.specs.declared.found.SiteFound.{SiteFound}
use Rattle.request_log.specs.Formats.{refusal_line}
use Rattle.request_log.specs.declared.format.Part.{Part as FormatPart}
use Rattle.site_reports.specs.Readings.{CommandOutside, has_file}
use Rattle.jk_commands.specs.Ends.{jkd_end, of_drill, status_of}
use Rattle.jk_commands.specs.Orders.{is_served, IsNoCommand, reads_files}
use Rattle.jk_commands.specs.declared.ends.EndOf.{EndOf}
use Rattle.jk_commands.specs.declared.ends.EndOf.TheVariants as end

-- ---- the statuses of a command that asks for workers or threads

-- those of a run
IsOfRun : ℕ → Type 0
IsOfRun k = (k ≡ 0) ⊎ (k ≡ 4) ⊎ (k ≡ 6)

closed_status : {L : Type 0} (closed : Closing L) (k : ℕ) → end_of_closing closed ≡ server.Status k → IsOfRun k
unfolding IsOfRun
closed_status closing.Kept k e = inl cc
closed_status closing.ShelfFault k e = inr (inl cc)
closed_status (closing.Differs discord) k e = cc
closed_status closing.NoMemory k e = inr (inr cc)

run_status : {L : Type 0} (ends : List (WorkerEnd L)) (closed : Closing L) (k : ℕ) → end_of_run ends closed ≡ server.Status k → IsOfRun k
unfolding IsOfRun
run_status [] closed k e = closed_status closed k e
run_status (worker.Closed sessions ∷ ends) closed k e = run_status ends closed k e
run_status (worker.DoorFault ∷ ends) closed k e = inr (inl cc)
run_status (worker.ShelfFault ∷ ends) closed k e = inr (inl cc)
run_status (worker.LogFault ∷ ends) closed k e = inr (inl cc)
run_status (worker.Stray stray ∷ ends) closed k e = cc
run_status (worker.NoMemory ∷ ends) closed k e = inr (inr cc)

container_status : (L : Type 0) (ends : List ContainerWorker) (k : ℕ) → end_of_container {L = L} ends ≡ server.Status k → IsOfRun k
unfolding IsOfRun
container_status L [] k e = inl cc
container_status L (container.Closed links ∷ ends) k e = container_status L ends k e
container_status L (container.DoorFault ∷ ends) k e = inr (inl cc)
container_status L (container.NoMemory ∷ ends) k e = inr (inr cc)

works_status : {G L : Type 0} (threads : ℕ) (Runs : WorldSide G → WorldSide G → CommandEnd L → Type 0) (s n : WorldSide G) (ended : CommandEnd L) (k : ℕ)
    → (Runs s n ended → ended ≡ server.Status k → IsOfRun k) → Works threads Runs s n ended → ended ≡ server.Status k → IsOfRun k
unfolding IsOfRun
works_status threads Runs s n ended k ran (NoGear w) e = let status = w.status in inr (inl cc)
works_status threads Runs s n ended k ran (NoRoom w) e = let status = w.status in inr (inr cc)
works_status threads Runs s n ended k ran (Ran w) e = ran w e

-- those of such a command: 5 only where the output's faults rose
Answered : {G : Type 0} → (s n : CommandSide G) → ℕ → Type 0
Answered s n k = IsOfRun k ⊎ (k ≡ 3) ⊎ ((k ≡ 5) × Rose s.output_faults n.output_faults)

-- a run of workers that may have lacked a log
logged_status : {W G C S O X Z L : Type 0} (told : Tells W G C S O X Z) (cfg : _) (rules : _) (format : List FormatPart) (threads : ℕ) (wanted : GearWants) (s n : WorldSide G) (ended : CommandEnd L) (k : ℕ)
    → RunsLogged told cfg rules format threads wanted s n ended → ended ≡ server.Status k → IsOfRun k
unfolding IsOfRun
logged_status told cfg rules format threads wanted s n ended k (inl lacks) e =
    elim lacks.why [ inl a ↦ let status = a.0 in inr (inl cc) | inr b ↦ let status = b.0 in inr (inr cc) ]
logged_status told cfg rules format threads wanted s n ended k (inr (inl wants)) e = let status = wants.status in inr (inr cc)
logged_status told cfg rules format threads wanted s n ended k (inr (inr ran)) e = run_status ran.ends ran.closing k (sym ran.status ∙ e)

-- a line that refuses something
line_status : {G L : Type 0} (s n : CommandSide G) (line : List ℕ) (ended : CommandEnd L) (k : ℕ) → WritesLine s.sent n.sent s.output_faults n.output_faults line ended → ended ≡ server.Status k → Answered s n k
unfolding IsOfRun Answered
line_status s n line ended k written e =
    elim written [ inl a ↦ let status = a.1 in inr (inl cc) | inr b ↦ elim b [ inl c ↦ let status = c.1 in inr (inr (cc, c.2)) | inr d ↦ let status = d.1 in inl (inr (inr cc)) ] ]

files_status : {W G C S O X Z L : Type 0} (told : Tells W G C S O X Z) (outside : CommandOutside) (workers map : List ℕ) (format : List FormatPart) (threads : ℕ) (wanted : GearWants) (s n : CommandSide G) (ended : CommandEnd L) (k : ℕ)
    → ServesFiles told outside workers map format threads wanted s n ended → ended ≡ server.Status k → Answered s n k
unfolding IsOfRun Answered
files_status told outside workers map format threads wanted s n ended k (Unread w) e =
    elim w.why [ inl a ↦ let status = a.0 in inl (inr (inl cc)) | inr b ↦ inl (inr (inr cc)) ]
files_status told outside workers map format threads wanted s n ended k (Refused w) e = line_status s n w.line ended k w.written e
files_status told outside workers map format threads wanted s n ended k (Served w) e =
    inl (works_status threads (RunsLogged told w.site.workers.config w.site.rules format threads wanted) (shown_to s.world w.site) n.world ended k
    (logged_status told w.site.workers.config w.site.rules format threads wanted (shown_to s.world w.site) n.world ended k) w.works e)

serve_status : {W G C S O X Z L : Type 0} (told : Tells W G C S O X Z) (outside : CommandOutside) (workers map text : List ℕ) (threads : ℕ) (wanted : GearWants) (s n : CommandSide G) (ended : CommandEnd L) (k : ℕ)
    → DoesServe told outside workers map text threads wanted s n ended → ended ≡ server.Status k → Answered s n k
unfolding IsOfRun Answered
serve_status told outside workers map text threads wanted s n ended k (NoFormat w) e = let status = w.status in inl (inr (inr cc))
serve_status told outside workers map text threads wanted s n ended k (Unformatted w) e = line_status s n (refusal_line w.at) ended k w.written e
serve_status told outside workers map text threads wanted s n ended k (Formatted format spelled serves) e = files_status told outside workers map format threads wanted s n ended k serves e

-- a status of the command is that of the server's call
served_status : {L : Type 0} (by : CommandEnd L) (k : ℕ) → jkd_end by ≡ end.Status k → by ≡ server.Status k
served_status (server.Status status) k e = let same : status ≡ k = cc in rw same refl
served_status (server.Discord discord) k e = cc
served_status (server.Stray stray) k e = cc

-- the program's status is that of the server's call
pub same_status : {L : Type 0} (by : CommandEnd L) → status_of (jkd_end by) ≡ served_number by
same_status (server.Status status) = refl
same_status (server.Discord discord) = refl
same_status (server.Stray stray) = refl

-- a call of `serve` never ends with the status of words that are no command
pub serve_done : {W G C S O X Z L : Type 0} (told : Tells W G C S O X Z) (outside : CommandOutside) (workers map text : List ℕ) (threads : ℕ) (wanted : GearWants) (s n : CommandSide G) (by : CommandEnd L) (ended : EndOf L)
    → DoesServe told outside workers map text threads wanted s n by → ended ≡ jkd_end by → ended ≢ end.Status 2
unfolding IsOfRun Answered
serve_done told outside workers map text threads wanted s n by ended serves turned e =
    elim (serve_status told outside workers map text threads wanted s n by 2 serves (served_status by 2 (sym turned ∙ e))) [
      | inl run ↦ elim run [ inl a ↦ omega (arith, a) | inr b ↦ elim b [ inl c ↦ omega (arith, c) | inr d ↦ omega (arith, d) ] ]
      | inr more ↦ elim more [ inl a ↦ omega (arith, a) | inr b ↦ omega (arith, b.0) ]
    ]

-- it ends with status 5 only where the output's faults rose
pub serve_lose : {W G C S O X Z L : Type 0} (told : Tells W G C S O X Z) (outside : CommandOutside) (workers map text : List ℕ) (threads : ℕ) (wanted : GearWants) (s n : CommandSide G) (by : CommandEnd L) (ended : EndOf L)
    → DoesServe told outside workers map text threads wanted s n by → ended ≡ jkd_end by → ended ≡ end.Status 5 → Rose s.output_faults n.output_faults
unfolding IsOfRun Answered
serve_lose told outside workers map text threads wanted s n by ended serves turned e =
    elim (serve_status told outside workers map text threads wanted s n by 5 serves (served_status by 5 (sym turned ∙ e))) [
      | inl run ↦ absurd (elim run [ inl a ↦ omega (arith, a) | inr b ↦ elim b [ inl c ↦ omega (arith, c) | inr d ↦ omega (arith, d) ] ])
      | inr more ↦ elim more [ inl a ↦ absurd (omega (arith, a)) | inr b ↦ b.1 ]
    ]

-- one that ends for want of memory met no failed write
line_wants : {G L : Type 0} (s n : CommandSide G) (line : List ℕ) (by : CommandEnd L) → WritesLine s.sent n.sent s.output_faults n.output_faults line by
    → status_of (jkd_end by) ≡ 6 → n.output_faults ≡ s.output_faults
line_wants s n line by (inl (sent, ended)) six = let is : 3 ≡ 6 = rw ended at six in absurd (omega (arith, is))
line_wants s n line by (inr (inl (front, ended, rose))) six = let is : 5 ≡ 6 = rw ended at six in absurd (omega (arith, is))
line_wants s n line by (inr (inr (front, ended, calm))) six = calm

files_want : {W G C S O X Z L : Type 0} (told : Tells W G C S O X Z) (outside : CommandOutside) (workers map : List ℕ) (format : List FormatPart) (threads : ℕ) (wanted : GearWants) (s n : CommandSide G) (by : CommandEnd L)
    → ServesFiles told outside workers map format threads wanted s n by → status_of (jkd_end by) ≡ 6 → n.output_faults ≡ s.output_faults
files_want told outside workers map format threads wanted s n by (Unread w) six = w.output.1
files_want told outside workers map format threads wanted s n by (Refused w) six = line_wants s n w.line by w.written six
files_want told outside workers map format threads wanted s n by (Served w) six = w.output.1

serve_want : {W G C S O X Z L : Type 0} (told : Tells W G C S O X Z) (outside : CommandOutside) (workers map text : List ℕ) (threads : ℕ) (wanted : GearWants) (s n : CommandSide G) (by : CommandEnd L)
    → DoesServe told outside workers map text threads wanted s n by → status_of (jkd_end by) ≡ 6 → n.output_faults ≡ s.output_faults
serve_want told outside workers map text threads wanted s n by (NoFormat w) six = w.output.1
serve_want told outside workers map text threads wanted s n by (Unformatted w) six = line_wants s n (refusal_line w.at) by w.written six
serve_want told outside workers map text threads wanted s n by (Formatted format spelled serves) six = files_want told outside workers map format threads wanted s n by serves six

pub serve_wants : {W G C S O X Z L : Type 0} (told : Tells W G C S O X Z) (outside : CommandOutside) (workers map text : List ℕ) (threads : ℕ) (wanted : GearWants) (s n : CommandSide G) (by : CommandEnd L) (ended : EndOf L)
    → DoesServe told outside workers map text threads wanted s n by → ended ≡ jkd_end by → status_of ended ≡ 6 → n.output_faults ≡ s.output_faults
serve_wants told outside workers map text threads wanted s n by ended serves turned six = serve_want told outside workers map text threads wanted s n by serves (rw turned at six)

told_wants : (L : Type 0) (sent now : Option (List ℕ)) (faults faults_now : ℕ) (told : List ℕ) (by : DrillEnd) → WritesTold sent now faults faults_now told by
    → status_of {L = L} (of_drill by) ≡ 6 → faults_now ≡ faults
told_wants L sent now faults faults_now told by (inl (written, ended)) six = let is : 0 ≡ 6 = rw ended at six in absurd (omega (arith, is))
told_wants L sent now faults faults_now told by (inr (inl (front, ended, rose))) six = let is : 5 ≡ 6 = rw ended at six in absurd (omega (arith, is))
told_wants L sent now faults faults_now told by (inr (inr (front, ended, calm))) six = calm

-- nor did such a drill
pub drill_wants : {L : Type 0} (seed threads requests : ℕ) (text passes : Bool) (sent now : Option (List ℕ)) (faults faults_now : ℕ) (by : DrillEnd) (ended : EndOf L)
    → RunsDrill seed threads requests text passes sent now faults faults_now by → ended ≡ of_drill by → status_of ended ≡ 6 → faults_now ≡ faults
drill_wants {L} seed threads requests text passes sent now faults faults_now by ended (Told w) turned six =
    told_wants L sent now faults faults_now w.told by w.written (rw turned at six)
drill_wants {L} seed threads requests text passes sent now faults faults_now by ended (Lacked w) turned six = w.calm

contain_status : {W G C S O X Z L : Type 0} (told : Tells W G C S O X Z) (route : List ℕ) (threads : ℕ) (wanted : GearWants) (s n : WorldSide G) (by : CommandEnd L) (ended : EndOf L) (k : ℕ)
    → ContainsLinks told route threads wanted s n by → ended ≡ jkd_end by → ended ≡ end.Status k → IsOfRun k
contain_status told route threads wanted s n by ended k links turned e =
    works_status threads (RunsContainer told links.app threads wanted) s n by k (λ ran is. container_status _ ran.ends k (sym ran.status ∙ is)) links.works
    (served_status by k (sym turned ∙ e))

-- a call of `contain` never ends with the status of words that are no command
pub contain_done : {W G C S O X Z L : Type 0} (told : Tells W G C S O X Z) (route : List ℕ) (threads : ℕ) (wanted : GearWants) (s n : WorldSide G) (by : CommandEnd L) (ended : EndOf L)
    → ContainsLinks told route threads wanted s n by → ended ≡ jkd_end by → ended ≢ end.Status 2
unfolding IsOfRun
contain_done told route threads wanted s n by ended links turned e =
    elim (contain_status told route threads wanted s n by ended 2 links turned e) [
      | inl a ↦ omega (arith, a)
      | inr b ↦ elim b [ inl c ↦ omega (arith, c) | inr d ↦ omega (arith, d) ]
    ]

-- nor with that of an output that was lost
pub contain_keeps : {W G C S O X Z L : Type 0} (told : Tells W G C S O X Z) (route : List ℕ) (threads : ℕ) (wanted : GearWants) (s n : WorldSide G) (by : CommandEnd L) (ended : EndOf L)
    → ContainsLinks told route threads wanted s n by → ended ≡ jkd_end by → ended ≢ end.Status 5
unfolding IsOfRun
contain_keeps told route threads wanted s n by ended links turned e =
    elim (contain_status told route threads wanted s n by ended 5 links turned e) [
      | inl a ↦ omega (arith, a)
      | inr b ↦ elim b [ inl c ↦ omega (arith, c) | inr d ↦ omega (arith, d) ]
    ]

-- ---- a plain command, by the status of its end

pub plain_none : (command : Order) (s n : PlainSide) (site : Option SiteFound) (by : PlainEnd) → EndsSo command s n site by → is_plain command ≡ false → number_of by ≡ 2
plain_none command s n site plain.Done said none = let built = said.0 in cc
plain_none command s n site plain.Bad said none = let built = said.0 in cc
plain_none command s n site plain.NoCommand said none = refl
plain_none command s n site plain.Refused said none = let built = said.0 in cc
plain_none command s n site plain.Running said none = let built = said.0 in cc
plain_none command s n site plain.InputFault said none = let built = said.0 in cc
plain_none command s n site plain.OutputFault said none = let built = said.0 in cc
plain_none command s n site plain.NoMemory said none = let built = said.0 in cc

-- 2 comes with no command alone
pub plain_two : (command : Order) (s n : PlainSide) (site : Option SiteFound) (by : PlainEnd) → EndsSo command s n site by → number_of by ≡ 2 → is_plain command ≡ false
plain_two command s n site plain.Done said two = let is : 0 ≡ 2 = two in absurd (omega (arith, is))
plain_two command s n site plain.Bad said two = let is : 1 ≡ 2 = two in absurd (omega (arith, is))
plain_two command s n site plain.NoCommand said two = said.0
plain_two command s n site plain.Refused said two = let is : 3 ≡ 2 = two in absurd (omega (arith, is))
plain_two command s n site plain.Running said two = let is : 4 ≡ 2 = two in absurd (omega (arith, is))
plain_two command s n site plain.InputFault said two = let is : 4 ≡ 2 = two in absurd (omega (arith, is))
plain_two command s n site plain.OutputFault said two = let is : 5 ≡ 2 = two in absurd (omega (arith, is))
plain_two command s n site plain.NoMemory said two = let is : 6 ≡ 2 = two in absurd (omega (arith, is))

-- 5 only where the output's faults rose
pub plain_five : (command : Order) (s n : PlainSide) (site : Option SiteFound) (by : PlainEnd) → EndsSo command s n site by → number_of by ≡ 5 → Rose s.faults.output n.faults.output
plain_five command s n site plain.Done said five = let is : 0 ≡ 5 = five in absurd (omega (arith, is))
plain_five command s n site plain.Bad said five = let is : 1 ≡ 5 = five in absurd (omega (arith, is))
plain_five command s n site plain.NoCommand said five = let is : 2 ≡ 5 = five in absurd (omega (arith, is))
plain_five command s n site plain.Refused said five = let is : 3 ≡ 5 = five in absurd (omega (arith, is))
plain_five command s n site plain.Running said five = let is : 4 ≡ 5 = five in absurd (omega (arith, is))
plain_five command s n site plain.InputFault said five = let is : 4 ≡ 5 = five in absurd (omega (arith, is))
plain_five command s n site plain.OutputFault said five = said.1.1
plain_five command s n site plain.NoMemory said five = let is : 6 ≡ 5 = five in absurd (omega (arith, is))

-- 6 only where they stand
pub plain_six : (command : Order) (s n : PlainSide) (site : Option SiteFound) (by : PlainEnd) → EndsSo command s n site by → number_of by ≡ 6 → n.faults.output ≡ s.faults.output
plain_six command s n site plain.Done said six = let is : 0 ≡ 6 = six in absurd (omega (arith, is))
plain_six command s n site plain.Bad said six = let is : 1 ≡ 6 = six in absurd (omega (arith, is))
plain_six command s n site plain.NoCommand said six = let is : 2 ≡ 6 = six in absurd (omega (arith, is))
plain_six command s n site plain.Refused said six = let is : 3 ≡ 6 = six in absurd (omega (arith, is))
plain_six command s n site plain.Running said six = let is : 4 ≡ 6 = six in absurd (omega (arith, is))
plain_six command s n site plain.InputFault said six = let is : 4 ≡ 6 = six in absurd (omega (arith, is))
plain_six command s n site plain.OutputFault said six = let is : 5 ≡ 6 = six in absurd (omega (arith, is))
plain_six command s n site plain.NoMemory said six = said.1.1.2

-- an order that asks for workers or threads is a command
pub served_command : (asked : Result Order WordsError) (o same : Order) → asked ≡ Ok o → o ≡ same → is_served same ≡ true → IsNoCommand asked → ⊥
served_command asked o same is meant served none =
    let no : (is_served same || is_plain same) ≡ false = rw (is, meant) at none in
    let yes : (is_served same || is_plain same) ≡ true = rw served refl in
    cc

-- a plain command that has files reads some
reads_due : (o : Order) → has_file (readings o) ≡ true → reads_files o ≡ true
reads_due (order.Serve o) due = refl
reads_due (order.Container route address threads clients) due = due
reads_due order.Play due = due
reads_due (order.Dry request reply site) due = due
reads_due (order.Config workers map) due = due
reads_due (order.Match workers map verbose) due = due
reads_due order.Check due = due
reads_due (order.Log format request reply workers map) due = due
reads_due order.Follow due = due
reads_due (order.Stop path) due = due
reads_due (order.Demo address) due = due
reads_due (order.Drill seed threads requests text passes) due = due

pub files_read : (o : Order) (same : Type 0) → same ⊎ (has_file (readings o) ≡ true) → same ⊎ (reads_files o ≡ true)
files_read o same (inl kept) = inl kept
files_read o same (inr due) = inr (reads_due o due)
