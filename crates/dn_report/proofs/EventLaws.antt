-- The law of event lines.
use Rattle.std.proofs.Common.{◌≡◌, ℕ, List, [], ◌∷◌, Option, Some, None, refl}
use Rattle.std.specs.Prelude.{codes}
use Rattle.std.specs.List.{AllByRecursion}
use Rattle.dn_lines.specs.Form.{last, ◌▸◌, no_other}
use Rattle.dn_lines.specs.Fields.{number, long_number, bytes, client, server, round, member}
use Rattle.dn_lines.specs.Exact.{IsExactForm, IsFree}
use Rattle.dn_lines.proofs.FormLaws.{nothing_exact, last_exact, then_exact, kind_found, of_kind_found, nothing_found, IsKind, Found}
use Rattle.dn_lines.proofs.FieldLaws.{number_exact, long_number_exact, bytes_exact, client_exact, server_exact, round_exact, member_exact, free_from_test}
use Rattle.dn_report.specs.declared.line.EventLine.{EventLine}
use Rattle.dn_report.specs.declared.line.EventLine.TheVariants as events
use Rattle.dn_report.specs.Forms.{say_event, open_event, submit_event, deliver_event, lose_event, tick_event, close_event, abandon_event, leave_event, accuse_event, judge_event, inject_event, read_say_event, read_open_event, read_submit_event, read_deliver_event, read_lose_event, read_tick_event, read_close_event, read_abandon_event, read_leave_event, read_accuse_event, read_judge_event, read_inject_event}
use Rattle.dn_report.specs.Lines.{event_fields, IsEvent, event_kinds, read_event}

-- these are the fields of an event line that may stand, behind `@`
abbrev pub SpellsEvent : EventLine → List (List ℕ) → Type 0
SpellsEvent e fields = (fields ≡ event_fields e) × IsEvent e

pub say_event_exact : IsExactForm say_event
say_event_exact = then_exact client (last bytes) client_exact (last_exact bytes bytes_exact)

pub say_event_found : IsKind SpellsEvent (record { word = codes "say"; read = read_say_event })
unfolding read_say_event
say_event_found = kind_found say_event (λ x. events.Say x.0 x.1) SpellsEvent (codes "say") say_event_exact (λ x fits. (refl, fits))

pub open_event_exact : IsExactForm open_event
open_event_exact = then_exact server (last round) server_exact (last_exact round round_exact)

pub open_event_found : IsKind SpellsEvent (record { word = codes "open"; read = read_open_event })
unfolding read_open_event
open_event_found = kind_found open_event (λ x. events.Open x.0 x.1) SpellsEvent (codes "open") open_event_exact (λ x fits. (refl, fits))

pub submit_event_exact : IsExactForm submit_event
submit_event_exact = then_exact client (server ▸ last round) client_exact (then_exact server (last round) server_exact (last_exact round round_exact))

pub submit_event_found : IsKind SpellsEvent (record { word = codes "submit"; read = read_submit_event })
unfolding read_submit_event
submit_event_found = kind_found submit_event (λ x. events.Submit x.0 x.1.0 x.1.1) SpellsEvent (codes "submit") submit_event_exact (λ x fits. (refl, fits))

pub deliver_event_exact : IsExactForm deliver_event
deliver_event_exact = last_exact long_number long_number_exact

pub deliver_event_found : IsKind SpellsEvent (record { word = codes "deliver"; read = read_deliver_event })
unfolding read_deliver_event
deliver_event_found = kind_found deliver_event (λ x. events.Deliver x) SpellsEvent (codes "deliver") deliver_event_exact (λ x fits. (refl, fits))

pub lose_event_exact : IsExactForm lose_event
lose_event_exact = last_exact long_number long_number_exact

pub lose_event_found : IsKind SpellsEvent (record { word = codes "lose"; read = read_lose_event })
unfolding read_lose_event
lose_event_found = kind_found lose_event (λ x. events.Lose x) SpellsEvent (codes "lose") lose_event_exact (λ x fits. (refl, fits))

pub tick_event_exact : IsExactForm tick_event
tick_event_exact = nothing_exact

pub tick_event_found : IsKind SpellsEvent (record { word = codes "tick"; read = read_tick_event })
unfolding read_tick_event
tick_event_found = kind_found tick_event (λ x. events.Tick) SpellsEvent (codes "tick") tick_event_exact (λ x fits. (refl, fits))

pub close_event_exact : IsExactForm close_event
close_event_exact = last_exact server server_exact

pub close_event_found : IsKind SpellsEvent (record { word = codes "close"; read = read_close_event })
unfolding read_close_event
close_event_found = kind_found close_event (λ x. events.Close x) SpellsEvent (codes "close") close_event_exact (λ x fits. (refl, fits))

pub abandon_event_exact : IsExactForm abandon_event
abandon_event_exact = last_exact server server_exact

pub abandon_event_found : IsKind SpellsEvent (record { word = codes "abandon"; read = read_abandon_event })
unfolding read_abandon_event
abandon_event_found = kind_found abandon_event (λ x. events.Abandon x) SpellsEvent (codes "abandon") abandon_event_exact (λ x fits. (refl, fits))

pub leave_event_exact : IsExactForm leave_event
leave_event_exact = last_exact client client_exact

pub leave_event_found : IsKind SpellsEvent (record { word = codes "leave"; read = read_leave_event })
unfolding read_leave_event
leave_event_found = kind_found leave_event (λ x. events.Leave x) SpellsEvent (codes "leave") leave_event_exact (λ x fits. (refl, fits))

pub accuse_event_exact : IsExactForm accuse_event
accuse_event_exact = then_exact client (round ▸ last number) client_exact (then_exact round (last number) round_exact (last_exact number number_exact))

pub accuse_event_found : IsKind SpellsEvent (record { word = codes "accuse"; read = read_accuse_event })
unfolding read_accuse_event
accuse_event_found = kind_found accuse_event (λ x. events.Accuse x.0 x.1.0 x.1.1) SpellsEvent (codes "accuse") accuse_event_exact (λ x fits. (refl, fits))

pub judge_event_exact : IsExactForm judge_event
judge_event_exact = then_exact round (last number) round_exact (last_exact number number_exact)

pub judge_event_found : IsKind SpellsEvent (record { word = codes "judge"; read = read_judge_event })
unfolding read_judge_event
judge_event_found = kind_found judge_event (λ x. events.Judge x.0 x.1) SpellsEvent (codes "judge") judge_event_exact (λ x fits. (refl, fits))

pub inject_event_exact : IsExactForm inject_event
inject_event_exact = then_exact member (member ▸ last long_number) member_exact (then_exact member (last long_number) member_exact (last_exact long_number long_number_exact))

pub inject_event_found : IsKind SpellsEvent (record { word = codes "inject"; read = read_inject_event })
unfolding read_inject_event
inject_event_found = kind_found inject_event (λ x. events.Inject x.0 x.1.0 x.1.1) SpellsEvent (codes "inject") inject_event_exact (λ x fits. (refl, fits))

-- ---- all of them

pub event_found : Found SpellsEvent read_event
unfolding read_event
event_found = of_kind_found SpellsEvent event_kinds no_other all (nothing_found SpellsEvent)
  where
    all : AllByRecursion (IsKind SpellsEvent) event_kinds
    all = (say_event_found, (open_event_found, (submit_event_found, (deliver_event_found, (lose_event_found, (tick_event_found, (close_event_found, (abandon_event_found, (leave_event_found, (accuse_event_found, (judge_event_found, (inject_event_found, tt))))))))))))

-- what is read from the fields of an event line behind `@`
abbrev read_all : List (List ℕ) → Option EventLine
read_all [] = None
read_all (word ∷ fields) = read_event word fields

pub event_known : (e : EventLine) → IsEvent e → read_all (event_fields e) ≡ Some e
unfolding read_event read_say_event read_open_event read_submit_event read_deliver_event read_lose_event read_tick_event read_close_event read_abandon_event read_leave_event read_accuse_event read_judge_event read_inject_event
event_known (events.Say client text) fits = rw (say_event_exact.knows (client, text) fits) refl
event_known (events.Open server r) fits = rw (open_event_exact.knows (server, r) fits) refl
event_known (events.Submit client server r) fits = rw (submit_event_exact.knows (client, (server, r)) fits) refl
event_known (events.Deliver id) fits = rw (deliver_event_exact.knows id fits) refl
event_known (events.Lose id) fits = rw (lose_event_exact.knows id fits) refl
event_known events.Tick fits = refl
event_known (events.Close server) fits = rw (close_event_exact.knows server fits) refl
event_known (events.Abandon server) fits = rw (abandon_event_exact.knows server fits) refl
event_known (events.Leave client) fits = rw (leave_event_exact.knows client fits) refl
event_known (events.Accuse client r k) fits = rw (accuse_event_exact.knows (client, (r, k)) fits) refl
event_known (events.Judge r k) fits = rw (judge_event_exact.knows (r, k) fits) refl
event_known (events.Inject from to payload) fits = rw (inject_event_exact.knows (from, (to, payload)) fits) refl

pub event_free : (e : EventLine) → IsEvent e → AllByRecursion (IsFree 32) (event_fields e)
event_free (events.Say client text) fits = (free_from_test 32 (codes "say") refl, say_event_exact.free (client, text) fits)
event_free (events.Open server r) fits = (free_from_test 32 (codes "open") refl, open_event_exact.free (server, r) fits)
event_free (events.Submit client server r) fits = (free_from_test 32 (codes "submit") refl, submit_event_exact.free (client, (server, r)) fits)
event_free (events.Deliver id) fits = (free_from_test 32 (codes "deliver") refl, deliver_event_exact.free id fits)
event_free (events.Lose id) fits = (free_from_test 32 (codes "lose") refl, lose_event_exact.free id fits)
event_free events.Tick fits = (free_from_test 32 (codes "tick") refl, tick_event_exact.free tt fits)
event_free (events.Close server) fits = (free_from_test 32 (codes "close") refl, close_event_exact.free server fits)
event_free (events.Abandon server) fits = (free_from_test 32 (codes "abandon") refl, abandon_event_exact.free server fits)
event_free (events.Leave client) fits = (free_from_test 32 (codes "leave") refl, leave_event_exact.free client fits)
event_free (events.Accuse client r k) fits = (free_from_test 32 (codes "accuse") refl, accuse_event_exact.free (client, (r, k)) fits)
event_free (events.Judge r k) fits = (free_from_test 32 (codes "judge") refl, judge_event_exact.free (r, k) fits)
event_free (events.Inject from to payload) fits = (free_from_test 32 (codes "inject") refl, inject_event_exact.free (from, (to, payload)) fits)
