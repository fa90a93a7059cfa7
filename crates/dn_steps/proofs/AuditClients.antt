-- What an auditor knows stays right where clients act, and where a message reaches one.
use Rattle.std.proofs.Common.{◌≡◌, ◌≢◌, ℕ, List, refl, Bool, true}
use Rattle.std.specs.Prelude.{Contains, ◌⊎◌, Option, Some, None}
use Rattle.dn_wire.specs.declared.ids.ClientId.{ClientId}
use Rattle.dn_wire.specs.declared.ids.ServerId.{ServerId}
use Rattle.dn_wire.specs.declared.ids.Round.{Round}
use Rattle.dn_wire.specs.declared.ids.Member.{Member}
use Rattle.dn_wire.specs.declared.ids.Member.TheVariants as members
use Rattle.dn_record_types.specs.declared.body.Body.{Body}
use Rattle.dn_roster.specs.Roster.{IsRoster}
use Rattle.dn_client.specs.Client.{ClientView}
use Rattle.dn_audit.specs.Group.{GroupView as Marked}
use Rattle.dn_report.specs.declared.outcome.Outcome.{Outcome}
use Rattle.dn_report.specs.declared.outcome.Outcome.TheVariants as outcomes
use Rattle.dn_report.specs.declared.words.IgnoredWord.{IgnoredWord}
use Rattle.dn_report.specs.declared.words.IgnoredWord.TheVariants as ignored
use Rattle.dn_state.specs.declared.delivering.Reached.{Reached}
use Rattle.dn_state.specs.declared.delivering.Reached.TheVariants as came
use Rattle.dn_state.specs.Parts.{PartsView}
use Rattle.dn_state.specs.Members.{with_client}
use Rattle.dn_state.specs.Calling.{IsIgnored, Submits, AccusesAt}
use Rattle.dn_state.specs.Calling.Submits.{submits, refuses as refuses_submission, rests as rests_submission}
use Rattle.dn_state.specs.Calling.AccusesAt.{accuses, refuses as refuses_accusation, rests as rests_accusation}
use Rattle.dn_state.specs.Delivering.{ComesOfReached, ReachesClient, body_of}
use Rattle.dn_state.specs.Delivering.ReachesClient.{is_left, reaches, passes}
use Rattle.dn_headline.specs.Group.{GroupView}
use Rattle.dn_headline.specs.Log.{Log, Put, with_outcomes}
use Rattle.dn_headline.specs.Run.{SumMade}
use Rattle.dn_auditing.specs.Known.{MarksKeys}
use Rattle.dn_steps.proofs.AuditPuts.{Keeps, AreOwn, keeps_same}
use Rattle.dn_steps.proofs.AuditActs.{Goes, goes_put, goes_both, one_line}
use Rattle.dn_steps.proofs.AuditCalls.{AreTold, told_still}
use Rattle.dn_steps.proofs.AuditServers.{Walked, walks_on, no_lines, body_walks}

module _ (g : GroupView) (is_roster : IsRoster g.roster) (marked : Marked) (marks : MarksKeys g marked) (sums : List SumMade) where
  -- another client's core
  client_too : (log : Log) (old : PartsView) (i : ClientId) (core : ClientView) → Walked g marked sums log old → Walked g marked sums log (with_client old i core)
  client_too log old i core w = record {
    made = w.made;
    told = told_still sums old (with_client old i core) w.made refl w.told;
    keeps = keeps_same g marked w.made log old (with_client old i core) refl refl refl w.keeps;
  }

  ignored_goes : (made : List SumMade) (actor : Member) (log : Log) (word : Option IgnoredWord) (old new : PartsView) (lines : List Outcome) → IsIgnored word old new lines
      → Keeps g marked made log old → Goes g marked made actor log old new lines
  ignored_goes made actor log word old new lines h k = one_line g is_roster marked marks made actor log old new (outcomes.Ignored h.why) lines h.tells.0 h.tells.1 refl refl k

  -- a client submits
  pub submits_walk : (i : ClientId) (j : ServerId) (r : Round) (log : Log) (old new : PartsView) (lines : List Outcome) → Submits i j r old new lines
      → AreOwn g (with_outcomes true (members.Client i) log lines).puts → Walked g marked sums log old → Walked g marked sums (with_outcomes true (members.Client i) log lines) new
  submits_walk i j r log old new lines (submits before at so) are w =
      let then = client_too log old i so.after w in
      walks_on g is_roster marked marks sums (members.Client i) log (with_client old i so.after) new lines then.made then.told
      (goes_put g is_roster marked marks then.made (members.Client i) _ _ log (with_client old i so.after) new lines so.put are then.keeps)
  submits_walk i j r log old new lines (refuses_submission before at so) are w =
      walks_on g is_roster marked marks sums (members.Client i) log old new lines w.made w.told (ignored_goes w.made (members.Client i) log _ old new lines so.told w.keeps)
  submits_walk i j r log old new lines (rests_submission nobody h) are w = no_lines g is_roster marked marks sums true (members.Client i) log old new lines h.0 h.1 w

  -- a client accuses
  pub accuses_walk : (i : ClientId) (r : Round) (k : ℕ) (log : Log) (old new : PartsView) (lines : List Outcome) → AccusesAt i r k old new lines
      → AreOwn g (with_outcomes true (members.Client i) log lines).puts → Walked g marked sums log old → Walked g marked sums (with_outcomes true (members.Client i) log lines) new
  accuses_walk i r k log old new lines (accuses before at so) are w =
      let then = client_too log old i so.after w in
      walks_on g is_roster marked marks sums (members.Client i) log (with_client old i so.after) new lines then.made then.told
      (goes_put g is_roster marked marks then.made (members.Client i) _ _ log (with_client old i so.after) new lines so.put are then.keeps)
  accuses_walk i r k log old new lines (refuses_accusation before at so) are w =
      walks_on g is_roster marked marks sums (members.Client i) log old new lines w.made w.told (ignored_goes w.made (members.Client i) log _ old new lines so.told w.keeps)
  accuses_walk i r k log old new lines (rests_accusation nobody h) are w = no_lines g is_roster marked marks sums true (members.Client i) log old new lines h.0 h.1 w

  -- a message reaches a client
  came_goes : (made : List SumMade) (i : ClientId) (body : Option Body) (reached : Reached) (log : Log) (old new : PartsView) (lines : List Outcome)
      → ComesOfReached i body reached old new lines → AreOwn g (with_outcomes true (members.Client i) log lines).puts → Keeps g marked made log old
      → Goes g marked made (members.Client i) log old new lines
  came_goes made i body came.Noted log old new lines h are k = one_line g is_roster marked marks made (members.Client i) log old new outcomes.Noted lines h.0 h.1 refl refl k
  came_goes made i body (came.Held r) log old new lines h are k =
      goes_both g is_roster marked marks made (members.Client i) log old h.between new h.lines_first h.lines_rest lines h.told are
      (λ first. one_line g is_roster marked marks made (members.Client i) log old h.between (outcomes.Held (members.Client i) r) h.lines_first h.begins.0 h.begins.1 refl refl k)
      (λ l so_far rest. body_walks g is_roster marked marks sums made (members.Client i) l body h.between new h.lines_rest h.goes_on so_far)
  came_goes made i body (came.Rebutted envelope) log old new lines h are k = goes_put g is_roster marked marks made (members.Client i) _ _ log old new lines h are k
  came_goes made i body (came.Ignored word) log old new lines h are k = ignored_goes made (members.Client i) log word old new lines h k

  pub client_reached_walks : (i : ClientId) (p : ℕ) (log : Log) (old new : PartsView) (lines : List Outcome) → ReachesClient i p old new lines
      → AreOwn g (with_outcomes true (members.Client i) log lines).puts → Walked g marked sums log old → Walked g marked sums (with_outcomes true (members.Client i) log lines) new
  client_reached_walks i p log old new lines (is_left left tells) are w =
      walks_on g is_roster marked marks sums (members.Client i) log old new lines w.made w.told
      (one_line g is_roster marked marks w.made (members.Client i) log old new (outcomes.Ignored ignored.Left) lines tells.0 tells.1 refl refl w.keeps)
  client_reached_walks i p log old new lines (reaches x before stays opens at core) are w =
      let then = client_too log old i core.after w in
      walks_on g is_roster marked marks sums (members.Client i) log (with_client old i core.after) new lines then.made then.told
      (came_goes then.made i (body_of x) core.reached log (with_client old i core.after) new lines core.comes are then.keeps)
  client_reached_walks i p log old new lines (passes stays nobody h) are w = no_lines g is_roster marked marks sums true (members.Client i) log old new lines h.0 h.1 w
