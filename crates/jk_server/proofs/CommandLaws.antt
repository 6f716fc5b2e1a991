-- How a command that asks for workers ends where a gear is refused or memory is wanted.
use Rattle.std.proofs.Common.{ℕ, ◌≡◌, ◌+◌, ◌<◌, ◌≤◌, List, [], ◌∷◌, length, Option, Some, None, Err, inl, inr, refl, sym, ◌∙◌, subst, arith, lit≤}
use Rattle.jk_io.specs.Told.{appended, HasCause}
use Rattle.jk_io.specs.declared.failures.IoError.{IoError}
use Rattle.jk_io.specs.declared.failures.IoError.TheVariants as io
use Rattle.ajp_container.specs.declared.app_config.AppConfig.{AppConfig}
use Rattle.site_reports.specs.Readings.{CommandOutside}
use Rattle.site_reports.specs.Sites.{IsFoundRefused}
use Rattle.site_reports.specs.declared.found.AcceptedSite.{AcceptedSite}
use Rattle.site_reports.specs.declared.found.SiteFound.{SiteFound}
use Rattle.jk_server.specs.Commands.{CommandSide, ContainsLinks, HandsOn, KeepsOutput, LacksLog, RunsContainer, ServesFiles, Undone, Unjudged, Unread, Works, NoGear, NoRoom}
use Rattle.request_log.specs.declared.format.Part.{Part as FormatPart}
use Rattle.jk_server.specs.Ends.{end_by, status_of}
use Rattle.gear_parts.specs.Showings.{Showing}
use Rattle.gear_parts.specs.Wants.{GearWants}
use Rattle.gear_parts.specs.Worlds.{HandsAndTakes, RefusesGear, shown_to, Tells, WorldSide}
use Rattle.jk_server.specs.declared.orders.ends.CommandEnd.{CommandEnd}
use Rattle.jk_server.specs.declared.orders.ends.CommandEnd.TheVariants as end
use Rattle.gear_parts.proofs.WorldLaws.{all_given, few_out, nothing_passed, then_back}

-- a gear was refused, or memory was wanted for one
pub works_err : {G L T : Type 0} (threads : ℕ) (Runs : WorldSide G → WorldSide G → CommandEnd L → Type 0) (s n : WorldSide G) (e : IoError) (ended : CommandEnd L)
    → RefusesGear threads s n → HasCause {T = T} s.faults n.faults (Err e) → ended ≡ end_by e → Works threads Runs s n ended
works_err threads Runs s n io.Failed ended refused cause is = NoGear (record { refused = refused; status = is; cause = cause.failed refl })
works_err threads Runs s n io.NoMemory ended refused cause is =
    NoRoom (record { gears = refused.gears; passed = refused.passed; few = omega (arith, refused.fewer); calm = cause.wanted refl; status = is })

-- memory was wanted before anything was done
pub wants_room : {G L : Type 0} (threads : ℕ) (Runs : WorldSide G → WorldSide G → CommandEnd L → Type 0) (s : WorldSide G) → Works threads Runs s s (end.Status 6)
wants_room threads Runs s = NoRoom (record { gears = []; passed = nothing_passed s; few = omega arith; calm = refl; status = refl })

-- memory was wanted after gears were taken, and they came back as they were
pub wants_back : {G L : Type 0} (threads : ℕ) (Runs : WorldSide G → WorldSide G → CommandEnd L → Type 0) (s n : WorldSide G) (gears back : List G)
    → HandsAndTakes s n gears back → back ≡ gears → length gears ≡ threads → n.faults ≡ s.faults → Works threads Runs s n (end.Status 6)
wants_back {G} threads Runs s n gears back passed same all calm =
    NoRoom (record { gears = gears; passed = subst (λ (gs : List G). HandsAndTakes s n gears gs) same passed; few = omega (arith, all); calm = calm; status = refl })

-- all that were taken come back
pub may_come_back : {G : Type 0} (s m : WorldSide G) (gears left : List G) (count : ℕ) → HandsAndTakes s m gears [] → count ≡ length left → length left ≡ length gears → count ≤ m.out
may_come_back s m gears left count taken whole all = few_out s m gears count taken (omega (arith, whole, all))

pub all_came_back : {G : Type 0} (s m n : WorldSide G) (gears left : List G) (count : ℕ) → HandsAndTakes s m gears []
    → n.back ≡ appended m.back left → n.out + count ≡ m.out → count ≡ length left → n.handed ≡ m.handed → n.faults ≡ m.faults → HandsAndTakes s n gears left
all_came_back s m n gears left count taken came out whole handed faults =
    then_back s m n gears left taken (all_given m n left came (omega (arith, out, whole)) handed faults)

pub some_asked : (n count : ℕ) → n ≡ count → 1 ≤ count → 0 < n
some_asked n count same some = omega (arith, same, some)

-- the files of a site couldn't be read
pub unread : {W G C S O X Z L T : Type 0} (told : Tells W G C S O X Z) (outside : CommandOutside) (workers map : List ℕ) (format : List FormatPart) (threads : ℕ) (wanted : GearWants) (s n : CommandSide G) (e : IoError) (ended : CommandEnd L)
    → HasCause {T = T} s.file_faults n.file_faults (Err e) → ended ≡ end_by e → KeepsOutput s n → n.world ≡ s.world
    → ServesFiles told outside workers map format threads wanted s n ended
unread told outside workers map format threads wanted s n io.Failed ended cause is output world =
    Unread (record { why = inl (is, cause.failed refl); output = output; world = world })
unread told outside workers map format threads wanted s n io.NoMemory ended cause is output world =
    Unread (record { why = inr (is, cause.wanted refl); output = output; world = world })

-- the application of a route that is short enough
pub app_of : (route : List ℕ) → length route ≤ 1024 → AppConfig
app_of route short = record { route = route; secret = None; packet = 8192; packet_at_least = lit≤ tt; packet_at_most = lit≤ tt; short_route = short }

pub contains_none : {W G C S O X Z L : Type 0} (told : Tells W G C S O X Z) (route : List ℕ) (threads : ℕ) (wanted : GearWants) (s : WorldSide G) → length route ≤ 1024
    → ContainsLinks {L = L} told route threads wanted s s (end.Status 6)
unfolding app_of
contains_none told route threads wanted s short = record {
  app = app_of route short;
  is = record { name = refl; secret = refl; packet = refl };
  works = wants_room threads (RunsContainer told (app_of route short) threads wanted) s;
}

-- a log was refused, after the gears were taken
pub lacks_log : {G L T : Type 0} (threads : ℕ) (s m n : WorldSide G) (gears : List G) (e : IoError) (ended : CommandEnd L)
    → HandsAndTakes s m gears [] → m.faults ≡ s.faults → length gears ≡ threads → HandsAndTakes m n [] gears → HasCause {T = T} m.faults n.faults (Err e)
    → ended ≡ end_by e → LacksLog threads s n ended
lacks_log threads s m n gears io.Failed ended taken calm all given cause is = record {
  gears = gears;
  count = all;
  passed = then_back s m n gears gears taken given;
  why = inl (is, rw (sym calm) (cause.failed refl));
}
lacks_log threads s m n gears io.NoMemory ended taken calm all given cause is = record {
  gears = gears;
  count = all;
  passed = then_back s m n gears gears taken given;
  why = inr (is, cause.wanted refl ∙ calm);
}

-- nothing more was handed out or came back
pub still_taken : {G : Type 0} (s m n : WorldSide G) (gears : List G) → HandsAndTakes s m gears [] → n.handed ≡ m.handed → n.back ≡ m.back → n.out ≡ m.out → n.faults ≡ m.faults
    → HandsAndTakes s n gears []
still_taken s m n gears taken handed back out faults = record {
  handed = handed ∙ taken.handed;
  came_back = back ∙ taken.came_back;
  counted = omega (arith, taken.counted, out);
  no_fewer = omega (arith, taken.no_fewer, faults);
}

-- a world of these parts
abbrev side_of : {G : Type 0} → (handed back : Option (List G)) → (out : ℕ) → (shown : Option (List (Showing G))) → (faults : ℕ) → WorldSide G
side_of handed back out shown faults = record { handed = handed; back = back; out = out; shown = shown; faults = faults }

-- a world that was shown a site, of which nothing else changed
pub shown_side : {G : Type 0} (s m : WorldSide G) (site : AcceptedSite) → m.handed ≡ s.handed → m.back ≡ s.back → m.out ≡ s.out → m.shown ≡ appended s.shown (record { site = site; handed = s.handed } ∷ [])
    → m.faults ≡ s.faults → m ≡ shown_to s site
shown_side s m site handed back out shown faults =
    let same : side_of m.handed m.back m.out m.shown m.faults ≡ shown_to s site = rw (handed, back, out, shown, faults) refl in
    same

-- by an error of the files nothing is done, and no site is handed on
pub unread_hands_on : {G L T : Type 0} (outside : CommandOutside) (workers map text : List ℕ) (s n : CommandSide G) (e : IoError) (ended : CommandEnd L) (site : Option SiteFound)
    → HasCause {T = T} s.file_faults n.file_faults (Err e) → ended ≡ end_by e → KeepsOutput s n → n.world ≡ s.world → site ≡ None
    → HandsOn outside workers map text s n (status_of ended) site
unread_hands_on outside workers map text s n io.Failed ended site cause is output world none =
    rw (is, none) (Undone (record { why = inl (refl, cause.failed refl); output = output; world = world }))
unread_hands_on outside workers map text s n io.NoMemory ended site cause is output world none =
    rw (is, none) (Undone (record { why = inr (refl, cause.wanted refl); output = output; world = world }))

-- files that are refused
pub refused_hands_on : {G : Type 0} (outside : CommandOutside) (workers map text : List ℕ) (s n : CommandSide G) (status : ℕ) (site : Option SiteFound)
    → IsFoundRefused outside workers map site → HandsOn outside workers map text s n status site
refused_hands_on outside workers map text s n status None is = Unjudged is
refused_hands_on outside workers map text s n status (Some f) is = is
