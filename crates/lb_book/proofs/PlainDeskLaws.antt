-- A call of a desk of one thread, told by its lists and its counts: chosen, denied, commanded or refused.
use Rattle.std.proofs.Common.{◌≡◌, ℕ, List, ◌++◌, length, take, Result, Ok, Err, refl, sym, subst}
use Rattle.std.specs.Prelude.{IfOk, IfErr, OnOk, OnErr}
use Rattle.std.proofs.Math.Seq.{take-append_seam}
use Rattle.lb_model.specs.declared.ask.Ask.{Ask}
use Rattle.lb_model.specs.declared.change.Command.{Command}
use Rattle.lb_model.specs.declared.refusal.AdminError.{AdminError}
use Rattle.lb_model.specs.declared.refusal.AdminError.TheVariants as admin
use Rattle.lb_model.specs.declared.refusal.FullMark.{FullMark}
use Rattle.lb_model.specs.declared.refusal.RoomError.{RoomError}
use Rattle.lb_model.specs.declared.refusal.RoomError.TheVariants as room
use Rattle.lb_book.specs.Desks.{Chooses, Commands, DeskState, RefusesChoice, RefusesCommand}
use Rattle.lb_book.specs.Journal.{Journal}
use Rattle.lb_book.specs.PlainDesks.{CountsFull, CountsRefusal, plain_state}
use Rattle.lb_book.specs.PlainLeases.{note_of}
use Rattle.lb_book.specs.PlainLists.{ListsChoose, ListsCommand, ListsDeny, ListsRefuse, lists}
use Rattle.lb_book.specs.declared.desk.Choice.{Choice}
use Rattle.lb_book.specs.declared.desk.Occasion.{Occasion}
use Rattle.lb_book.specs.declared.plain_desk.PlainLease.{PlainLease}
use Rattle.lb_book.specs.declared.receipt.Receipt.{Receipt}

-- a list that was lent whole
pub lent_back : (n : ℕ) (new rest : List Journal) → n ≡ length new → take n (new ++ rest) ≡ new
lent_back n new rest all = subst (λ (k : ℕ). take k (new ++ rest) ≡ new) (sym all) (take-append_seam new rest)

chose_so : (first after : List Journal) (r r' : List Receipt) (h h' : List (ℕ × ℕ)) (fulls fulls' wides : ℕ) (on : Occasion) (ask : Ask)
    (result : Result (Choice PlainLease) (RoomError FullMark)) → IfOk result (ListsChoose (lists first r h) (lists after r' h') on ask) → CountsFull fulls fulls' result
    → IfOk result (λ x. Chooses note_of (plain_state first r h 0 fulls wides) (plain_state after r' h' 0 fulls' wides) on.lb on.session on.at ask x)
chose_so first after r r' h h' fulls fulls' wides on ask (Ok x) told counts =
    subst (λ (f : ℕ). Chooses note_of (plain_state first r h 0 fulls wides) (plain_state after r' h' 0 f wides) on.lb on.session on.at ask x) (sym counts) (told fulls wides)
chose_so first after r r' h h' fulls fulls' wides on ask (Err e) told counts = tt

-- the desk chose
pub desk_chose : (lent first back after : List Journal) (r r' : List Receipt) (h h' : List (ℕ × ℕ)) (fulls fulls' wides : ℕ) (on : Occasion) (ask : Ask)
    (result : Result (Choice PlainLease) (RoomError FullMark)) (old : DeskState) → lent ≡ first → back ≡ after → plain_state first r h 0 fulls wides ≡ old
    → IfOk result (ListsChoose (lists lent r h) (lists after r' h') on ask) → CountsFull fulls fulls' result
    → IfOk result (λ x. Chooses note_of old (plain_state back r' h' 0 fulls' wides) on.lb on.session on.at ask x)
desk_chose lent first back after r r' h h' fulls fulls' wides on ask result old was is view told counts =
    subst (λ (d : DeskState). IfOk result (λ x. Chooses note_of d (plain_state back r' h' 0 fulls' wides) on.lb on.session on.at ask x)) view
    (subst (λ (bs : List Journal). IfOk result (λ x. Chooses note_of (plain_state first r h 0 fulls wides) (plain_state bs r' h' 0 fulls' wides) on.lb on.session on.at ask x)) (sym is)
    (chose_so first after r r' h h' fulls fulls' wides on ask result
    (subst (λ (bs : List Journal). IfOk result (ListsChoose (lists bs r h) (lists after r' h') on ask)) was told) counts))

denied_so : (first after : List Journal) (r r' : List Receipt) (h h' : List (ℕ × ℕ)) (fulls fulls' wides : ℕ) (on : Occasion)
    (result : Result (Choice PlainLease) (RoomError FullMark)) → IfErr result (ListsDeny (lists first r h) (lists after r' h') on) → OnErr result (h' ≡ h) → CountsFull fulls fulls' result
    → IfErr result (λ e. RefusesChoice (λ mark. mark) (plain_state first r h 0 fulls wides) (plain_state after r' h' 0 fulls' wides) on.lb on.session on.at e)
denied_so first after r r' h h' fulls fulls' wides on (Ok x) told held counts = tt
denied_so first after r r' h h' fulls fulls' wides on (Err (room.Full mark)) told held counts = record {
  gains = told fulls wides fulls' wides;
  held = held;
  full = λ m is. counts;
  wanted = λ no. absurd cc;
  stray = refl;
  wide = refl;
  met = refl;
}
denied_so first after r r' h h' fulls fulls' wides on (Err room.NoMemory) told held counts = record {
  gains = told fulls wides fulls' wides;
  held = held;
  full = λ m no. absurd cc;
  wanted = λ is. counts;
  stray = refl;
  wide = refl;
  met = refl;
}

-- the ask was refused
pub desk_denied : (lent first back after : List Journal) (r r' : List Receipt) (h h' : List (ℕ × ℕ)) (fulls fulls' wides : ℕ) (on : Occasion)
    (result : Result (Choice PlainLease) (RoomError FullMark)) (old : DeskState) → lent ≡ first → back ≡ after → plain_state first r h 0 fulls wides ≡ old
    → IfErr result (ListsDeny (lists lent r h) (lists after r' h') on) → OnErr result (h' ≡ h) → CountsFull fulls fulls' result
    → IfErr result (λ e. RefusesChoice (λ mark. mark) old (plain_state back r' h' 0 fulls' wides) on.lb on.session on.at e)
desk_denied lent first back after r r' h h' fulls fulls' wides on result old was is view told held counts =
    subst (λ (d : DeskState). IfErr result (λ e. RefusesChoice (λ mark. mark) d (plain_state back r' h' 0 fulls' wides) on.lb on.session on.at e)) view
    (subst (λ (bs : List Journal). IfErr result (λ e. RefusesChoice (λ mark. mark) (plain_state first r h 0 fulls wides) (plain_state bs r' h' 0 fulls' wides) on.lb on.session on.at e)) (sym is)
    (denied_so first after r r' h h' fulls fulls' wides on result
    (subst (λ (bs : List Journal). IfErr result (ListsDeny (lists bs r h) (lists after r' h') on)) was told) held counts))

commanded_so : (first after : List Journal) (r r' : List Receipt) (h : List (ℕ × ℕ)) (fulls fulls' wides wides' : ℕ) (on : Occasion) (command : Command)
    (result : Result (Unit {0}) (AdminError FullMark)) → OnOk result (ListsCommand (lists first r h) (lists after r' h) on command) → CountsRefusal fulls fulls' wides wides' result
    → IfOk result (λ _. Commands (plain_state first r h 0 fulls wides) (plain_state after r' h 0 fulls' wides') on.lb on.session on.at command)
commanded_so first after r r' h fulls fulls' wides wides' on command (Ok x) told counts =
    subst (λ (f : ℕ). Commands (plain_state first r h 0 fulls wides) (plain_state after r' h 0 f wides') on.lb on.session on.at command) (sym counts.0)
    (subst (λ (w : ℕ). Commands (plain_state first r h 0 fulls wides) (plain_state after r' h 0 fulls w) on.lb on.session on.at command) (sym counts.1) (told fulls wides))
commanded_so first after r r' h fulls fulls' wides wides' on command (Err e) told counts = tt

-- the command was done
pub desk_commanded : (lent first back after : List Journal) (r r' : List Receipt) (seen h : List (ℕ × ℕ)) (fulls fulls' wides wides' : ℕ) (on : Occasion) (command : Command)
    (result : Result (Unit {0}) (AdminError FullMark)) (old : DeskState) → lent ≡ first → seen ≡ h → back ≡ after → plain_state first r h 0 fulls wides ≡ old
    → OnOk result (ListsCommand (lists lent r seen) (lists after r' seen) on command) → CountsRefusal fulls fulls' wides wides' result
    → IfOk result (λ _. Commands old (plain_state back r' h 0 fulls' wides') on.lb on.session on.at command)
desk_commanded lent first back after r r' seen h fulls fulls' wides wides' on command result old was saw is view told counts =
    subst (λ (d : DeskState). IfOk result (λ _. Commands d (plain_state back r' h 0 fulls' wides') on.lb on.session on.at command)) view
    (subst (λ (bs : List Journal). IfOk result (λ _. Commands (plain_state first r h 0 fulls wides) (plain_state bs r' h 0 fulls' wides') on.lb on.session on.at command)) (sym is)
    (commanded_so first after r r' h fulls fulls' wides wides' on command result
    (subst (λ (hs : List (ℕ × ℕ)). OnOk result (ListsCommand (lists first r hs) (lists after r' hs) on command)) saw
    (subst (λ (bs : List Journal). OnOk result (ListsCommand (lists bs r seen) (lists after r' seen) on command)) was told)) counts))

refused_so : (first after : List Journal) (r r' : List Receipt) (h : List (ℕ × ℕ)) (fulls fulls' wides wides' : ℕ) (on : Occasion) (command : Command)
    (result : Result (Unit {0}) (AdminError FullMark)) → IfErr result (ListsRefuse (lists first r h) (lists after r' h) on command) → CountsRefusal fulls fulls' wides wides' result
    → IfErr result (λ e. RefusesCommand (λ mark. mark) (plain_state first r h 0 fulls wides) (plain_state after r' h 0 fulls' wides') on.lb on.session on.at command e)
refused_so first after r r' h fulls fulls' wides wides' on command (Ok x) told counts = tt
refused_so first after r r' h fulls fulls' wides wides' on command (Err admin.UnknownMember) told counts = record { gains = told fulls wides fulls' wides'; counted = counts }
refused_so first after r r' h fulls fulls' wides wides' on command (Err admin.BadValue) told counts = record { gains = told fulls wides fulls' wides'; counted = counts }
refused_so first after r r' h fulls fulls' wides wides' on command (Err (admin.TooWide mark)) told counts = record { gains = told fulls wides fulls' wides'; counted = counts }
refused_so first after r r' h fulls fulls' wides wides' on command (Err (admin.Full mark)) told counts = record { gains = told fulls wides fulls' wides'; counted = counts }
refused_so first after r r' h fulls fulls' wides wides' on command (Err admin.NoMemory) told counts = record { gains = told fulls wides fulls' wides'; counted = counts }

-- the command was refused
pub desk_refused : (lent first back after : List Journal) (r r' : List Receipt) (seen h : List (ℕ × ℕ)) (fulls fulls' wides wides' : ℕ) (on : Occasion) (command : Command)
    (result : Result (Unit {0}) (AdminError FullMark)) (old : DeskState) → lent ≡ first → seen ≡ h → back ≡ after → plain_state first r h 0 fulls wides ≡ old
    → IfErr result (ListsRefuse (lists lent r seen) (lists after r' seen) on command) → CountsRefusal fulls fulls' wides wides' result
    → IfErr result (λ e. RefusesCommand (λ mark. mark) old (plain_state back r' h 0 fulls' wides') on.lb on.session on.at command e)
desk_refused lent first back after r r' seen h fulls fulls' wides wides' on command result old was saw is view told counts =
    subst (λ (d : DeskState). IfErr result (λ e. RefusesCommand (λ mark. mark) d (plain_state back r' h 0 fulls' wides') on.lb on.session on.at command e)) view
    (subst (λ (bs : List Journal). IfErr result (λ e. RefusesCommand (λ mark. mark) (plain_state first r h 0 fulls wides) (plain_state bs r' h 0 fulls' wides') on.lb on.session on.at command e)) (sym is)
    (refused_so first after r r' h fulls fulls' wides wides' on command result
    (subst (λ (hs : List (ℕ × ℕ)). IfErr result (ListsRefuse (lists first r hs) (lists after r' hs) on command)) saw
    (subst (λ (bs : List Journal). IfErr result (ListsRefuse (lists bs r seen) (lists after r' seen) on command)) was told)) counts))
