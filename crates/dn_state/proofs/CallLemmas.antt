-- Calls of cores, from what is done step by step.
use Rattle.std.proofs.Common.{◌≡◌, List, [], Option, Some, None, ap, subst, ◌∙◌}
use Rattle.std.specs.Prelude.{slice_set}
use Rattle.dn_wire.specs.declared.ids.ClientId.{ClientId}
use Rattle.dn_wire.specs.declared.ids.ServerId.{ServerId}
use Rattle.dn_client.specs.Client.{ClientView}
use Rattle.dn_server.specs.declared.answer.Answer.{Answer}
use Rattle.dn_server.specs.Server.{ServerView}
use Rattle.dn_audit.specs.Auditor.{AuditorView}
use Rattle.dn_report.specs.declared.outcome.Outcome.{Outcome}
use Rattle.dn_state.specs.declared.calling.Call.{Call}
use Rattle.dn_state.specs.Parts.{PartsView}
use Rattle.dn_state.specs.Members.{client_at, server_at}
use Rattle.dn_state.specs.Acting.{ComesOf}
use Rattle.dn_state.specs.Calling.{IsAnswerTo, KeepsRules, NotesSum, CallsServer}
use Rattle.dn_state.specs.Calling.CallsServer.{calls, rests}
use Rattle.dn_state.proofs.CoreLemmas.{set_back, set_twice, set_none}

-- the parts with these servers, and with these clients
abbrev pub of_servers : PartsView → List (Option ServerView) → PartsView
of_servers v servers = record v { servers = servers }

abbrev pub of_clients : PartsView → List (Option ClientView) → PartsView
of_clients v clients = record v { clients = clients }

-- a server that is taken out of its place and put back as another
pub put_back : (old : PartsView) (j : ServerId) (after : ServerView) (taken servers : List (Option ServerView))
    → taken ≡ slice_set old.servers j.0 None → servers ≡ slice_set taken j.0 (Some after) → servers ≡ slice_set old.servers j.0 (Some after)
put_back old j after taken servers took put =
    put ∙ ap (λ xs. slice_set xs j.0 (Some after)) took ∙ set_twice old.servers j.0 None (Some after)

-- no server is taken where there is none
pub takes_none : (old : PartsView) (j : ServerId) (taken : List (Option ServerView)) → taken ≡ slice_set old.servers j.0 None → server_at old j ≡ None → taken ≡ old.servers
takes_none old j taken took none = took ∙ set_none old.servers j.0 none

-- a client that stays as it is
pub stays : (old : PartsView) (i : ClientId) (clients : List (Option ClientView)) (before after : ClientView)
    → client_at old i ≡ Some before → after ≡ before → clients ≡ slice_set old.clients i.0 (Some after) → clients ≡ old.clients
stays old i clients before after there same kept = kept ∙ ap (λ x. slice_set old.clients i.0 (Some x)) same ∙ set_back old.clients i.0 before there

module _ (old new : PartsView) (call : Call) (j : ServerId) (lines : List Outcome) where
  -- a call of a server, from its parts
  pub calls_server : (before after : ServerView) (answer : Answer) (auditor : AuditorView) (servers : List (Option ServerView))
      → server_at old j ≡ Some before → IsAnswerTo call before answer after → KeepsRules before after
      → NotesSum j after.run.r after.run.sum old.auditor auditor → servers ≡ slice_set old.servers j.0 (Some after)
      → ComesOf j after.run.r answer (record old { servers = servers; auditor = auditor }) new lines → CallsServer call j old new lines
  calls_server before after answer auditor servers there answered rules noted put does = calls before there (record {
    answer = answer;
    after = after;
    answered = answered;
    rules = rules;
    auditor = auditor;
    noted = noted;
    does = subst (λ xs. ComesOf j after.run.r answer (record old { servers = xs; auditor = auditor }) new lines) put does;
  })

  -- a call of none
  pub calls_none : server_at old j ≡ None → new ≡ old → lines ≡ [] → CallsServer call j old new lines
  calls_none none same silent = rests none (same, silent)
