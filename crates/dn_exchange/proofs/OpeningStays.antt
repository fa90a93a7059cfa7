-- What a server keeps true of its openings stays true in its rounds.
use Rattle.std.proofs.Common.{◌≡◌, ℕ, ◌<◌, ◌^◌, Bool, true, false, List, [], ◌∷◌, ◌++◌, length, Some, refl, sym, ap, subst, ◌∙◌, arith, inl, inr}
use Rattle.std.specs.Prelude.{Option, All, Contains, find, ◌==◌}
use Rattle.std.proofs.lemmas.Option.{same_Some}
use Rattle.std.specs.Option.{option_or}
use Rattle.std.proofs.lemmas.List.Folds.{find-append}
use Rattle.std.proofs.lemmas.List.Elements.{All-weaker, Contains-push_cases}
use Rattle.dn_wire.specs.declared.ids.Round.{Round}
use Rattle.dn_record_types.specs.declared.body.Body.{Body}
use Rattle.dn_record_types.specs.declared.body.Listed.{Listed}
use Rattle.dn_record_types.specs.declared.statement.Statement.{Statement}
use Rattle.dn_record_types.specs.declared.statement.Statement.TheVariants as kinds
use Rattle.dn_seal.specs.Dealt.{server}
use Rattle.dn_seal.specs.Signer.{CanSign}
use Rattle.dn_seal.proofs.SizeLemmas.{can_sign}
use Rattle.dn_cert.specs.Certificate.{IsOfRoster}
use Rattle.dn_cert.specs.Chain.{ChainView, bodies, with_held}
use Rattle.dn_cert.proofs.GrowthLemmas.{held_stays}
use Rattle.dn_server.specs.declared.act.Act.{Act}
use Rattle.dn_server.specs.declared.past.Past.{Past}
use Rattle.dn_server.specs.declared.run.Run.{Run}
use Rattle.dn_server.specs.declared.run.Sum.{Sum}
use Rattle.dn_server.specs.declared.run.Stage.TheVariants as stages
use Rattle.dn_server.specs.Server.{ServerView, itself, past_of, course_of, ended}
use Rattle.dn_rounds.specs.Going.{Step, Steps, IsCommitDue, no_step, one_more, says, unbent, with_past, past_with, thin_past, commitment_of}
use Rattle.dn_rounds.specs.Going.Step.{commits, reveals, signs, signs_thin, certifies, commit_conflicts, reveal_conflicts, body_opposed, thin_opposed}
use Rattle.dn_rounds.proofs.SumLemmas.{sum_long}
use Rattle.dn_openings.specs.Open.{CanOpen}
use Rattle.dn_openings.specs.Accusing.{shown_of}
use Rattle.dn_openings.proofs.DisciplineLemmas.{leaves_can}
use Rattle.dn_openings.proofs.FitLemmas.{shown_fits}
use Rattle.dn_exchange.specs.Invariant.{IsSound}
use Rattle.dn_exchange.specs.Openings.{IsOpen}
use Rattle.dn_exchange.proofs.ReadyLemmas.{few_listed, clients_within, low_number}

-- ---- what is kept of bodies

find_stays : {X : Type 0} (p : X → Bool) (xs ys : List X) (x : X) → find p xs ≡ Some x → find p (xs ++ ys) ≡ Some x
find_stays p xs ys x e = find-append p xs ys ∙ ap (λ o. option_or o (find p ys)) e

-- a server that differs in none of this is as open
pub moved : (v after : ServerView) → after.seat ≡ v.seat → after.key ≡ v.key → after.opened ≡ v.opened → after.evidence ≡ v.evidence → after.chain ≡ v.chain
    → after.pasts ≡ v.pasts → CanOpen v → CanOpen after
moved v after seat key opened evidence chain pasts can =
    leaves_can v after
    (record {
      seat = seat;
      key = key;
      opened = opened;
      evidence = evidence;
      held = λ b c. subst (λ (x : ChainView). Contains (bodies x) b) (sym chain) c;
      in_group = subst (λ s. All (IsOfRoster s.roster) (bodies after.chain)) (sym seat) (subst (λ (x : ChainView). All (IsOfRoster v.seat.roster) (bodies x)) (sym chain) can.in_group);
      pasts = λ r past e. ap (λ l. past_of l r) pasts ∙ e;
      sizes = λ past there. subst (λ s. CanSign (server s.number) (shown_of past)) (sym seat) (can.sizes past (subst (λ l. Contains l past) pasts there));
    }) can

-- with another run, and other leaves
in_run : (v : ServerView) (run : Run) (signed : List Statement) (aside : ℕ) (bend : Option ℕ) → CanOpen v
    → CanOpen (record v { run = run; signed = signed; aside = aside; bend = bend })
in_run v run signed aside bend can = moved v (record v { run = run; signed = signed; aside = aside; bend = bend }) refl refl refl refl refl refl can

-- with one past more, which fits
more_past : (v : ServerView) (past : Past) → CanSign (itself v) (shown_of past) → CanOpen v → CanOpen (with_past v past)
more_past v past fits can =
    leaves_can v (with_past v past)
    (record {
      seat = refl;
      key = refl;
      opened = refl;
      evidence = refl;
      held = λ b c. c;
      in_group = can.in_group;
      pasts = λ r p e. find_stays (λ x. x.body.r.0 == r) v.pasts (past ∷ []) p e;
      sizes = λ p there. elim (Contains-push_cases v.pasts past p there) [
        | inl old ↦ can.sizes p old
        | inr new ↦ subst (λ x. CanSign (itself v) (shown_of x)) new fits
      ];
    }) can

-- with one body more, of the group
pub more_body : (v : ServerView) (b : Body) → All (IsOfRoster v.seat.roster) (with_held b v.chain.held) → CanOpen v
    → CanOpen (record v { chain = record v.chain { held = with_held b v.chain.held } })
more_body v b all can =
    leaves_can v (record v { chain = record v.chain { held = with_held b v.chain.held } })
    (record {
      seat = refl;
      key = refl;
      opened = refl;
      evidence = refl;
      held = λ c there. held_stays b v.chain.held c there;
      in_group = all;
      pasts = λ r p e. e;
      sizes = can.sizes;
    }) can

-- ---- one step

-- the sum that the server commits itself to fits
sum_fits : (v : ServerView) → IsSound v → v.run.is_running ≡ true → (sum : Sum) → IsCommitDue v sum → CanSign (itself v) (kinds.Shown v.run.r sum.s sum.own)
sum_fits v sound on sum due =
    let running = sound.running on in
    let clients = sound.seated.roster.clients in
    let low : All (λ (l : Listed). l.client.0 < 2 ^ 32) sum.listed =
    All-weaker (λ (l : Listed). l.client.0 < length v.seat.roster.clients) (λ (l : Listed). l.client.0 < 2 ^ 32) (λ l h. omega (arith, clients.1)) sum.listed
    (clients_within v sound running false sum.listed due.listing) in
    shown_fits v.seat.number (course_of v.run) sum.listed sum.s sum.own (low_number v sound running) running.course.small running.course.few
    (few_listed v sound running false sum.listed due.listing) due.listing.trim.ascends low (sum_long v sum due.summed) due.summed.rows

empty_fits : (number : ℕ) (r : Round) → number < 2 ^ 32 → r.0 < 2 ^ 64 → CanSign (server number) (kinds.Shown r [] [])
empty_fits number r low round =
    can_sign (server number) (kinds.Shown r [] []) low (round, (omega arith, (omega arith, tt, tt))) tt

same_sum : (v : ServerView) (sum : Sum) → CanSign (itself v) (kinds.Shown v.run.r sum.s sum.own) → (other : Sum) → Some sum ≡ Some other
    → CanSign (itself v) (kinds.Shown v.run.r other.s other.own)
same_sum v sum fits other e = subst (λ (x : Sum). CanSign (itself v) (kinds.Shown v.run.r x.s x.own)) (same_Some sum other e) fits

-- what a step leaves open
pub step_open : (v : ServerView) (did : List Act) (w : ServerView) → IsSound v → v.run.is_running ≡ true → Step v did w → IsSound w → IsOpen v → IsOpen w
step_open v did w sound on (commits sum due free leaf d e) then is =
    subst IsOpen (sym e)
    (record { can = moved v (unbent (says v (commitment_of v sum) stages.Committed (Some sum))) refl refl refl refl refl refl is.can; sum = same_sum v sum (sum_fits v sound on sum due) })
step_open v did w sound on (reveals sum due free leaf d e) then is =
    subst IsOpen (sym e)
    (record { can = moved v (says v (kinds.Reveal v.run.r sum.s) stages.Revealed (Some sum)) refl refl refl refl refl refl is.can; sum = same_sum v sum (is.sum sum due.has) })
step_open v did w sound on (signs sum b due free leaf d e) then is =
    let mid : ServerView = says v (kinds.Sign b) stages.Signed (Some sum) in
    let round : v.run.r ≡ b.r = sym (ap (λ (x : Body). x.r) due.is) in
    let fits = is.sum sum due.has in
    let past_fits : CanSign (itself v) (shown_of (past_with sum b)) = subst (λ r. CanSign (itself v) (kinds.Shown r sum.s sum.own)) round fits in
    subst IsOpen (sym e) (record { can = more_past mid (past_with sum b) past_fits (moved v mid refl refl refl refl refl refl is.can); sum = same_sum v sum fits })
step_open v did w sound on (signs_thin b due free leaf d e) then is =
    let running = sound.running on in
    let mid : ServerView = says v (kinds.Sign b) stages.Signed v.run.sum in
    let round : v.run.r ≡ b.r = sym (ap (λ (x : Body). x.r) due.is) in
    let fits : CanSign (itself v) (shown_of (thin_past b)) =
    subst (λ r. CanSign (itself v) (kinds.Shown r [] [])) round (empty_fits v.seat.number v.run.r (low_number v sound running) running.course.small) in
    subst IsOpen (sym e) (record { can = more_past mid (thin_past b) fits (moved v mid refl refl refl refl refl refl is.can); sum = is.sum })
step_open v did w sound on (certifies b c agreed is_one follows d e) then is =
    let all : All (IsOfRoster v.seat.roster) (with_held c.body v.chain.held) =
    subst (λ (x : ServerView). All (IsOfRoster x.seat.roster) (bodies x.chain)) e then.in_group in
    let mid : ServerView = ended v in
    subst IsOpen (sym e) (record { can = more_body mid c.body all (moved v mid refl refl refl refl refl refl is.can); sum = is.sum })
step_open v did w sound on (commit_conflicts sum other due free d e) then is =
    subst IsOpen (sym e) (record { can = moved v (unbent (ended v)) refl refl refl refl refl refl is.can; sum = is.sum })
step_open v did w sound on (reveal_conflicts sum other due free d e) then is =
    subst IsOpen (sym e) (record { can = moved v (ended v) refl refl refl refl refl refl is.can; sum = is.sum })
step_open v did w sound on (body_opposed sum b j other due free d e) then is =
    subst IsOpen (sym e) (record { can = moved v (ended v) refl refl refl refl refl refl is.can; sum = is.sum })
step_open v did w sound on (thin_opposed b j other due free d e) then is =
    subst IsOpen (sym e) (record { can = moved v (ended v) refl refl refl refl refl refl is.can; sum = is.sum })

-- and the steps, where each leaves the server sound
pub steps_open : ((v : ServerView) (did : List Act) (w : ServerView) → IsSound v → v.run.is_running ≡ true → Step v did w → IsSound w)
    → (v : ServerView) (did : List Act) (w : ServerView) → Steps v did w → IsSound v → IsOpen v → IsOpen w
steps_open sound_step v did w (no_step none same) sound is = subst IsOpen (sym same) is
steps_open sound_step v did w (one_more first rest between on step steps d) sound is =
    let then = sound_step v first between sound on step in
    steps_open sound_step between rest w steps then (step_open v first between sound on step then is)
