-- What a server keeps true of its openings stays true in its calls.
use Rattle.std.proofs.Common.{◌≡◌, ℕ, Bool, true, List, [], ◌∷◌, ◌++◌, refl, sym, subst, ◌∙◌}
use Rattle.std.specs.Prelude.{Option, All, length}
use Rattle.std.proofs.Common.{arith}
use Rattle.std.proofs.lemmas.List.Elements.{All-nil}
use Rattle.dn_roster.specs.declared.group.GroupSpec.{GroupSpec}
use Rattle.dn_roster.specs.Roster.{RosterView}
use Rattle.dn_seal.specs.Said.{IsUnder}
use Rattle.dn_exchange.specs.Making.{first_server}
use Rattle.dn_layout.specs.Layout.{bits_of}
use Rattle.dn_wire.specs.declared.ids.Round.{Round}
use Rattle.dn_record_types.specs.declared.statement.Statement.{Statement}
use Rattle.dn_record_types.specs.declared.statement.Statement.TheVariants as kinds
use Rattle.dn_seal.specs.Said.{SaidView}
use Rattle.dn_seal.specs.Signer.{CanSign}
use Rattle.dn_cert.specs.Certificate.{CertificateView, IsOfRoster}
use Rattle.dn_cert.specs.Chain.{bodies, with_held}
use Rattle.dn_server.specs.declared.act.Act.{Act}
use Rattle.dn_server.specs.declared.answer.Answer.{Answer}
use Rattle.dn_server.specs.declared.run.Run.{Run}
use Rattle.dn_server.specs.declared.run.Stage.TheVariants as stages
use Rattle.dn_server.specs.Server.{ServerView, itself, ended}
use Rattle.dn_rounds.specs.Going.{Step, IsFree, HasLeaf, says}
use Rattle.dn_exchange.specs.Invariant.{IsSound}
use Rattle.dn_exchange.specs.Openings.{IsOpen}
use Rattle.dn_exchange.specs.Opening.{Opens, fresh_run, expected_by}
use Rattle.dn_exchange.specs.Opening.Opens.{is_old, is_running, is_spent, opens}
use Rattle.dn_exchange.specs.Submitting.{Submitted, Submits, TakesSubmission, receipt_of, with_claim}
use Rattle.dn_exchange.specs.Submitting.Submits.{is_refused, repeats as repeats_claim, finds_no_leaf as no_leaf, is_claimed}
use Rattle.dn_exchange.specs.Closing.{Closes, inventory_of}
use Rattle.dn_exchange.specs.Closing.Closes.{lists, meets_other, finds_no_leaf}
use Rattle.dn_exchange.specs.Ending.{Abandons, HoldsOn, with_certificate}
use Rattle.dn_exchange.specs.Ending.Abandons.{is_idle, abandons}
use Rattle.dn_exchange.specs.Ending.HoldsOn.{is_known, has_no_prev, is_off_floor, is_of_other_length, is_held, ends_run}
use Rattle.dn_exchange.specs.Hearing.{HearsRound, IsFaultless, with_kept}
use Rattle.dn_exchange.specs.Hearing.HearsRound.{is_early, is_past, is_idle as idle_round, repeats as repeats_round, is_second, is_faulty, goes_on}
use Rattle.dn_exchange.proofs.OpeningStays.{moved, more_body, steps_open}

-- with a run of the same round and sum
pub in_run : (v : ServerView) (run : Run) (signed : List Statement) (aside : ℕ) → run.r ≡ v.run.r → run.sum ≡ v.run.sum → IsOpen v
    → IsOpen (record v { run = run; signed = signed; aside = aside })
in_run v run signed aside round same is = record {
  can = moved v (record v { run = run; signed = signed; aside = aside }) refl refl refl refl refl refl is.can;
  sum = λ sum e. subst (λ r. CanSign (itself v) (kinds.Shown r sum.s sum.own)) (sym round) (is.sum sum (sym same ∙ e));
}

-- a server that is bent, by what it is told to change in a sum, and by what it was made to sign
pub bent_by : (v : ServerView) (at : Option ℕ) (signed : List Statement) → IsOpen v → IsOpen (record v { bend = at; signed = signed; bent = true })
bent_by v at signed is = record { can = moved v (record v { bend = at; signed = signed; bent = true }) refl refl refl refl refl refl is.can; sum = is.sum }

pub ended_open : (v : ServerView) → IsOpen v → IsOpen (ended v)
ended_open v is = record { can = moved v (ended v) refl refl refl refl refl refl is.can; sum = is.sum }

pub opens_open : (v : ServerView) (r : Round) (a : Answer) (w : ServerView) → Opens v r a w → IsOpen v → IsOpen w
opens_open v r a w (is_old o e same) is = subst IsOpen (sym same) is
opens_open v r a w (is_running n o e same) is = subst IsOpen (sym same) is
opens_open v r a w (is_spent n o l e same) is = subst IsOpen (sym same) is
opens_open v r a w (opens prev layout n o l latest after e same) is =
    subst IsOpen (sym same) (record {
      can = moved v (record v { aside = 4; run = fresh_run (length v.seat.roster.clients) (expected_by v.seat) r prev (bits_of layout) }) refl refl refl refl refl refl is.can;
      sum = λ sum e. cc;
    })

pub submits_open : (v : ServerView) (said : SaidView) (cipher : List Bool) (a : Answer) (w : ServerView) → TakesSubmission v said cipher a w → IsOpen v → IsOpen w
submits_open v said cipher a w took is = by took.0 took.2
  where
    by : (s : Submitted) → Submits v s a w → IsOpen w
    by s (is_refused refused same) = subst IsOpen (sym same) is
    by s (repeats_claim fits has e same) = subst IsOpen (sym same) is
    by s (no_leaf fits has few e same) = subst IsOpen (sym same) is
    by s (is_claimed fits has few e same) =
        subst IsOpen (sym same) (in_run v (with_claim v.run s) (v.signed ++ receipt_of v s ∷ []) v.aside refl refl is)

pub abandons_open : (v : ServerView) (a : Answer) (w : ServerView) → Abandons v a w → IsOpen v → IsOpen w
abandons_open v a w (is_idle i e same) is = subst IsOpen (sym same) is
abandons_open v a w (abandons i e same) is = subst IsOpen (sym same) (ended_open v is)

with_open : (v : ServerView) (c : CertificateView) → All (IsOfRoster v.seat.roster) (with_held c.body v.chain.held) → IsOpen v → IsOpen (with_certificate v c)
with_open v c all is = record { can = more_body v c.body all is.can; sum = is.sum }

pub holds_open : (v : ServerView) (c : CertificateView) (a : Answer) (w : ServerView) → HoldsOn v c a w → IsSound w → IsOpen v → IsOpen w
holds_open v c a w (is_known r why e same) then is = subst IsOpen (sym same) is
holds_open v c a w (has_no_prev prev why e same) then is = subst IsOpen (sym same) is
holds_open v c a w (is_off_floor count last why e same) then is = subst IsOpen (sym same) is
holds_open v c a w (is_of_other_length have need why e same) then is = subst IsOpen (sym same) is
holds_open v c a w (is_held follows other e same) then is =
    subst IsOpen (sym same) (with_open v c (subst (λ (x : ServerView). All (IsOfRoster x.seat.roster) (bodies x.chain)) same then.in_group) is)
holds_open v c a w (ends_run follows other e same) then is =
    subst IsOpen (sym same)
    (ended_open (with_certificate v c) (with_open v c (subst (λ (x : ServerView). All (IsOfRoster x.seat.roster) (bodies x.chain)) same then.in_group) is))

module _ (sound_step : (v : ServerView) (did : List Act) (w : ServerView) → IsSound v → v.run.is_running ≡ true → Step v did w → IsSound w) where
  pub closes_open : (v : ServerView) (did : List Act) (w : ServerView) → Closes v did w
      → (IsFree v (kinds.Inventory (inventory_of v.run)) → HasLeaf v → IsSound (says v (kinds.Inventory (inventory_of v.run)) stages.Listed v.run.sum)) → IsOpen v → IsOpen w
  closes_open v did w (lists rest free leaf on d) listed is =
      let mid : ServerView = says v (kinds.Inventory (inventory_of v.run)) stages.Listed v.run.sum in
      steps_open sound_step mid rest w on.steps (listed free leaf) (in_run v mid.run mid.signed mid.aside refl refl is)
  closes_open v did w (meets_other other free d same) listed is = subst IsOpen (sym same) (ended_open v is)
  closes_open v did w (finds_no_leaf free leaf bent d same) listed is = subst IsOpen (sym same) is

  pub hears_open : (v : ServerView) (j : ℕ) (r : Round) (said : SaidView) (a : Answer) (w : ServerView) → HearsRound v j r said a w
      → (IsFaultless v j said.statement → r ≡ v.run.r → IsSound (with_kept v said)) → IsOpen v → IsOpen w
  hears_open v j r said a w (is_early o e same) kept is = subst IsOpen (sym same) is
  hears_open v j r said a w (is_past o e same) kept is = subst IsOpen (sym same) is
  hears_open v j r said a w (idle_round o i e same) kept is = subst IsOpen (sym same) is
  hears_open v j r said a w (repeats_round o i k e same) kept is = subst IsOpen (sym same) is
  hears_open v j r said a w (is_second other o i k n e same) kept is = subst IsOpen (sym same) (ended_open v is)
  hears_open v j r said a w (is_faulty fault o i k h e same) kept is =
      subst IsOpen (sym same) (ended_open (with_kept v said) (in_run v (with_kept v said).run v.signed v.aside refl refl is))
  hears_open v j r said a w (goes_on did o i k h on e) kept is =
      steps_open sound_step (with_kept v said) did w on.steps (kept h o) (in_run v (with_kept v said).run v.signed v.aside refl refl is)

-- a server that has done nothing
pub first_open : (group : GroupSpec) (roster : RosterView) (j workers : ℕ) → IsSound (first_server group roster j workers) → IsOpen (first_server group roster j workers)
first_open group roster j workers sound = record {
  can = record {
    member = sound.member;
    in_group = sound.in_group;
    seeds = sound.seated.seeds;
    under = All-nil (IsUnder roster);
    sizes = λ past there. absurd (omega (arith, there.1));
    places = λ place there. absurd (omega (arith, there.1));
  };
  sum = λ sum e. cc;
}
