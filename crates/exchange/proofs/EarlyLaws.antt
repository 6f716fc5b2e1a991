-- An exchange before its last talk: nothing was written, and just the first piece was taken.
use Rattle.std.proofs.Common.{◌≡◌, ℕ, ◌≤◌, Bool, true, List, [], ◌∷◌, ◌++◌, take, Option, Some, None, IfSome, Ok, Err, sym, ap, ◌∙◌, subst, inl, inr, arith, append-nil}
use Rattle.jk_io.specs.Moments.{Moment}
use Rattle.jk_io.specs.Told.{appended, Rose}
use Rattle.jk_io.specs.declared.reaching.Talk.{Talk}
use Rattle.lb_model.specs.declared.refusal.Stray.{Stray}
use Rattle.ajp_talk.specs.Moments.{BodyAt, TakesOfBody, data_at}
use Rattle.ajp_talk.specs.declared.ending.TalkEnd.{TalkEnd}
use Rattle.ajp_talk.specs.declared.ending.TalkEnd.TheVariants as ends
use Rattle.ajp_talk.specs.declared.ending.Told.{Told}
use Rattle.ajp_talk.specs.declared.plan.TalkPlan.{TalkPlan}
use Rattle.forwarding.specs.FirstPiece.{first_len}
use Rattle.http_front.specs.Body.{Data, dropped, reaches}
use Rattle.site_config.specs.declared.endpoint.Endpoint.{Endpoint}
use Rattle.lb_book.specs.Desks.{RisesByOne}
use Rattle.exchange.specs.Exchanges.{begun_with}
use Rattle.exchange.specs.FirstPiece.{TakesFirst}
use Rattle.exchange.specs.OneTalk.{Around, IsHeld, IsOneTalk, no_link}
use Rattle.exchange.specs.Requests.{Errand, plan_for}
use Rattle.exchange.specs.Rounds.{HasEnded, HaveGoneOn, IsRound, Round, Scene}
use Rattle.exchange.specs.Talks.{HasRun, is_fresh}
use Rattle.exchange.specs.declared.ending.Ran.{Ran}
use Rattle.exchange.specs.declared.ending.Ran.TheVariants as ran_is
use Rattle.exchange.proofs.ExchangeLaws.{round_unmoved}
use Rattle.exchange.proofs.GrowLaws.{Grows, appended_no_talk, appended_twice, failed_grows}
use Rattle.exchange.proofs.UnmovedLaws.{IsUnmoved, all_unmoved, still, takes_twice, unmoved_twice}

-- ---- before the last talk

abbrev pub piece_len : Errand → ℕ
piece_len q = first_len q.head.plan q.balancer.ends

-- Nothing was written, and just the first piece was taken.
pub record IsEarly (q : Errand) (first : List ℕ) (s n : Around) : Type 0 where
  pub piece : IfSome (data_at s.body) (λ d. first ≡ take (piece_len q) d.bytes)
  pub takes : TakesOfBody s.body n.body first
  pub left : data_at n.body ≡ dropped (piece_len q) (data_at s.body)
  pub written : n.client.sent ≡ s.client.sent
  pub client_faults : n.client.faults ≡ s.client.faults
  pub others : List Talk
  pub noted : n.talks ≡ appended s.talks others

pub the_piece : (told : Option Data) (len : ℕ) (first : List ℕ) → IfSome told (λ d. (first ≡ take len d.bytes) × (reaches len d ≡ true))
    → IfSome told (λ d. first ≡ take len d.bytes)
the_piece None len first is = is
the_piece (Some d) len first is = is.0

pub starts_early : (q : Errand) (first : List ℕ) (s : Scene) (client : Moment) (body : BodyAt) → TakesFirst (piece_len q) s.around.body body first
    → client.sent ≡ s.around.client.sent → client.faults ≡ s.around.client.faults → IsEarly q first s.around (begun_with s client body).around
starts_early q first s client body took unwritten steady = record {
  piece = the_piece (data_at s.around.body) (piece_len q) first took.piece;
  takes = took.takes;
  left = took.left;
  written = unwritten;
  client_faults = steady;
  others = [];
  noted = sym (appended_no_talk s.around.talks);
}

pub still_early : (q : Errand) (first : List ℕ) (s m n : Around) → IsEarly q first s m → IsUnmoved m n → Grows m n → IsEarly q first s n
still_early q first s m n early kept grows = record {
  piece = early.piece;
  takes = subst (TakesOfBody s.body n.body) (append-nil first) (takes_twice s.body m.body n.body first [] early.takes (kept.takes early.takes.going));
  left = kept.left ∙ early.left;
  written = kept.written ∙ early.written;
  client_faults = kept.client_faults ∙ early.client_faults;
  others = early.others ++ grows.gained;
  noted = grows.talks ∙ ap (λ (t : Option (List Talk)). appended t grows.gained) early.noted ∙ appended_twice s.talks early.others grows.gained;
}

pub rounds_unmoved : (q : Errand) (first : List ℕ) (s : Scene) (past : List Round) (n : Scene) → HaveGoneOn q first s past n → IsUnmoved s.around n.around
rounds_unmoved q first s [] n same = subst (λ (x : Scene). IsUnmoved s.around x.around) (sym same) (still s.around)
rounds_unmoved q first s (r ∷ past) n (mid, before, round, next) =
    unmoved_twice s.around mid.around n.around (rounds_unmoved q first s past mid before) (round_unmoved q first _ _ mid n r None round next)

-- no stray was met in them
pub rounds_stray : (q : Errand) (first : List ℕ) (s : Scene) (past : List Round) (n : Scene) → HaveGoneOn q first s past n → n.desk.strays ≡ s.desk.strays
rounds_stray q first s [] n same = ap (λ (x : Scene). x.desk.strays) same
rounds_stray q first s (r ∷ past) n (mid, before, round, next) =
    round.back.stray ∙ round.chose.stray ∙ rounds_stray q first s past mid before

-- The last talk of a round, before which nothing was written.
pub record IsFinal (q : Errand) (first : List ℕ) (s n : Around) (r : Round) (end : TalkEnd) : Type 0 where
  pub begun : Around
  pub fresh : Bool
  pub early : IsEarly q first s begun
  pub talk : IsOneTalk q.lb r.member r.endpoint (plan_for q first r.config r.endpoint) fresh begun n (Ok end)

pub final_of_run : (q : Errand) (first : List ℕ) (s m n : Around) (r : Round) (fresh : Bool) (end : TalkEnd) (bytes : ℕ) → IsEarly q first s m
    → HasRun q first r.member r.config r.endpoint fresh m n (ran_is.Ended end bytes) → IsFinal q first s n r end
final_of_run q first s m n r fresh end bytes early (inl (fits, (before, runs, told))) = record {
  begun = runs.mid;
  fresh = is_fresh fresh before;
  early = still_early q first s m runs.mid early (all_unmoved q.lb r.member r.endpoint q.head (plan_for q first r.config r.endpoint) fresh m before runs.mid runs.failed)
      (failed_grows q.lb r.member r.endpoint q.head (plan_for q first r.config r.endpoint) fresh m before runs.mid runs.failed);
  talk = runs.final;
}
final_of_run q first s m n r fresh end bytes early (inr (inl (is, unfit, same))) = absurd cc
final_of_run q first s m n r fresh end bytes early (inr (inr (is, same))) = absurd cc

pub final_of_round : (q : Errand) (first : List ℕ) (s : Around) (tried : ℕ) (fresh : Bool) (m n : Scene) (r : Round) (stray : Option Stray) (end : TalkEnd) → IsEarly q first s m.around
    → IsRound q first tried fresh m n r stray → HasEnded r end → IsFinal q first s n.around r end
final_of_round q first s tried fresh m n r stray end early round (bytes, is) =
    final_of_run q first s m.around n.around r fresh end bytes early
    (subst (λ (ran : Ran). HasRun q first r.member r.config r.endpoint fresh m.around n.around ran) is round.talked)

-- a bad body is found in a talk that was held
pub bad_held : (lb member : ℕ) (endpoint : Endpoint) (plan : TalkPlan) (fresh : Bool) (b n : Around) (status : ℕ) (told : Option Told) (passed : Bool) (moved : ℕ)
    → IsOneTalk lb member endpoint plan fresh b n (Ok (ends.BadBody status told passed moved)) → IsHeld lb member endpoint plan fresh b n (Ok (ends.BadBody status told passed moved))
bad_held lb member endpoint plan fresh b n status told passed moved (inl held) = held
bad_held lb member endpoint plan fresh b n status told passed moved (inr (inl linkless)) =
    absurd (let is : Ok (ends.BadBody status told passed moved) ≡ Ok no_link = linkless.0 in cc)
bad_held lb member endpoint plan fresh b n status told passed moved (inr (inr wanted)) =
    absurd (let is : Ok (ends.BadBody status told passed moved) ≡ Err wanted.0 = wanted.1 in cc)

pub done_held : (lb member : ℕ) (endpoint : Endpoint) (plan : TalkPlan) (fresh : Bool) (b n : Around) (told : Told) (reuse : Bool) (moved : ℕ)
    → IsOneTalk lb member endpoint plan fresh b n (Ok (ends.Done told reuse moved)) → IsHeld lb member endpoint plan fresh b n (Ok (ends.Done told reuse moved))
done_held lb member endpoint plan fresh b n told reuse moved (inl held) = held
done_held lb member endpoint plan fresh b n told reuse moved (inr (inl linkless)) =
    absurd (let is : Ok (ends.Done told reuse moved) ≡ Ok no_link = linkless.0 in cc)
done_held lb member endpoint plan fresh b n told reuse moved (inr (inr wanted)) =
    absurd (let is : Ok (ends.Done told reuse moved) ≡ Err wanted.0 = wanted.1 in cc)

pub gone_held : (lb member : ℕ) (endpoint : Endpoint) (plan : TalkPlan) (fresh : Bool) (b n : Around) (truncated keep : Bool) (moved : ℕ)
    → IsOneTalk lb member endpoint plan fresh b n (Ok (ends.ClientGone truncated keep moved)) → IsHeld lb member endpoint plan fresh b n (Ok (ends.ClientGone truncated keep moved))
gone_held lb member endpoint plan fresh b n truncated keep moved (inl held) = held
gone_held lb member endpoint plan fresh b n truncated keep moved (inr (inl linkless)) =
    absurd (let is : Ok (ends.ClientGone truncated keep moved) ≡ Ok no_link = linkless.0 in cc)
gone_held lb member endpoint plan fresh b n truncated keep moved (inr (inr wanted)) =
    absurd (let is : Ok (ends.ClientGone truncated keep moved) ≡ Err wanted.0 = wanted.1 in cc)

pub rose_by_one : (before now : ℕ) → RisesByOne before now → Rose before now
rose_by_one before now rises = omega (arith, rises)

pub rose_on : (before mid now : ℕ) → before ≤ mid → Rose mid now → Rose before now
rose_on before mid now fewer rose = omega (arith, fewer, rose)
