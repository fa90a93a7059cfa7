-- What an auditor knows stays right where a member puts bytes.
use Rattle.std.proofs.Common.{◌≡◌, ℕ, List, [], ◌∷◌, ◌++◌, map, length, refl, sym, ap, subst, ◌∙◌, inl, inr, Bool, true, false, cond}
use Rattle.std.specs.Prelude.{Contains, ◌⊎◌, slice_get, Some, option_map}
use Rattle.std.proofs.lemmas.Bool.{cases_Bool}
use Rattle.std.proofs.lemmas.Option.{same_Some, get_or_from_slice_get, slice_get-map}
use Rattle.std.proofs.lemmas.List.{map-append, length-map}
use Rattle.std.proofs.lemmas.List.Elements.{Contains-append_left, Contains-append_right, Contains-append_cases, Contains-push}
use Rattle.dn_wire.specs.declared.ids.Member.{Member}
use Rattle.dn_wire.specs.declared.ids.SignerId.{SignerId}
use Rattle.dn_record_types.specs.declared.statement.Statement.{Statement}
use Rattle.dn_records.specs.Records.{statement_bytes}
use Rattle.dn_roster.specs.Roster.{RosterView, IsRoster, digest_of, signed_bytes_of}
use Rattle.dn_cert.proofs.Orders.{here, nothing, first_or_later}
use Rattle.dn_payloads.specs.Payloads.{PayloadView, PayloadsView, IsContent, IsNumberedBy}
use Rattle.dn_flight.specs.Flight.{FlightView}
use Rattle.dn_audit.specs.Auditor.{AuditorView, Looks, HasSigned}
use Rattle.dn_audit.specs.Group.{GroupView as Marked}
use Rattle.dn_report.specs.declared.outcome.Outcome.{Outcome}
use Rattle.dn_report.specs.declared.outcome.Outcome.TheVariants as outcomes
use Rattle.dn_state.specs.declared.putting.Sender.{Sender}
use Rattle.dn_state.specs.Parts.{PartsView}
use Rattle.dn_state.specs.Putting.{Puts, Sends, SendsEach, LooksIfNew, NotesOwn, front_of, with_shown_in}
use Rattle.dn_state.specs.Putting.Sends.{sent, full}
use Rattle.dn_state.specs.Putting.SendsEach.{to_none, to_next}
use Rattle.dn_headline.specs.Group.{GroupView}
use Rattle.dn_headline.specs.Log.{Log, Put, actor_after, with_outcome, with_outcomes}
use Rattle.dn_headline.specs.Run.{SumMade}
use Rattle.dn_headline.specs.Spoken.{IsInFront}
use Rattle.dn_auditing.specs.Known.{MarksKeys, Knows, IsOwnFront, NotesFront}
use Rattle.dn_auditing.proofs.Places.{was_last}
use Rattle.dn_auditing.proofs.Putting.{first_put, noted_again, put_often}
use Rattle.dn_steps.specs.Fitting.{FitsPayloads}
use Rattle.dn_steps.proofs.Places.{no_more, both_ways, only, place_at_end, one_at}
use Rattle.dn_steps.proofs.Sending.{put_of}
use Rattle.dn_steps.proofs.AuditContents.{front_noted, content_shows}

-- What a walk through a step keeps: the payloads open in the run's group and fit what was put, the marks are those of the audit, and the auditor knows
-- all that was put.
pub record Keeps (g : GroupView) (marked : Marked) (made : List SumMade) (log : Log) (parts : PartsView) : Type 0 where
  pub opens : parts.payloads.roster ≡ g.roster
  pub group : parts.group ≡ marked
  pub payloads : FitsPayloads g.roster log parts.payloads
  pub knows : Knows g log.puts made parts.auditor

-- members' own cores put what they signed themselves
abbrev pub AreOwn : GroupView → List Put → Type 0
AreOwn g puts = (p : Put) → Contains puts p → IsOwnFront g p

-- parts that differ in none of this
pub keeps_same : (g : GroupView) (marked : Marked) (made : List SumMade) (log : Log) (old new : PartsView) → new.payloads ≡ old.payloads → new.group ≡ old.group
    → new.auditor ≡ old.auditor → Keeps g marked made log old → Keeps g marked made log new
keeps_same g marked made log old new payloads group auditor k = record {
  opens = ap (λ (p : PayloadsView). p.roster) payloads ∙ k.opens;
  group = group ∙ k.group;
  payloads = subst (FitsPayloads g.roster log) (sym payloads) k.payloads;
  knows = subst (Knows g log.puts made) (sym auditor) k.knows;
}

-- a log in which the same was put
pub keeps_log : (g : GroupView) (marked : Marked) (made : List SumMade) (log other : Log) (parts : PartsView) → other.payloads ≡ log.payloads → other.puts ≡ log.puts
    → Keeps g marked made log parts → Keeps g marked made other parts
keeps_log g marked made log other parts payloads puts k = record {
  opens = k.opens;
  group = k.group;
  payloads = record {
    numbers = payloads ∙ k.payloads.numbers;
    put = λ x h. let p = k.payloads.put x h in (p.0, subst (λ ps. Contains ps p.0) (sym puts) p.1, p.2);
    content = k.payloads.content;
  };
  knows = subst (λ ps. Knows g ps made parts.auditor) (sym puts) k.knows;
}

-- ---- messages

-- the log has the same put for each of these members more
record HasPuts (own : Bool) (by : Member) (bytes : List ℕ) (to : List Member) (log after : Log) : Type 0 where
  payloads : after.payloads ≡ log.payloads
  puts : after.puts ≡ log.puts ++ map (λ (m : Member). put_of own by bytes) to

module _ (own : Bool) (by : Member) (payload : ℕ) (bytes : List ℕ) where
  record LineSo (log : Log) (line : Outcome) : Type 0 where
    actor : actor_after by line ≡ by
    payloads : (with_outcome own by log line).payloads ≡ log.payloads
    puts : (with_outcome own by log line).puts ≡ log.puts ++ put_of own by bytes ∷ []

  line_so : (to : Member) (log : Log) (old new : FlightView) (line : Outcome) → slice_get log.payloads payload ≡ Some bytes → Sends by payload to old new line → LineSo log line
  unfolding with_outcome
  line_so to log old new line there (sent room msgs next is) =
      subst (LineSo log) (sym is) (record {
        actor = refl;
        payloads = refl;
        puts = ap (λ b. log.puts ++ put_of own by b ∷ []) (get_or_from_slice_get log.payloads payload bytes [] there);
      })
  line_so to log old new line there (full no_room same is) =
      subst (LineSo log) (sym is) (record {
        actor = refl;
        payloads = refl;
        puts = ap (λ b. log.puts ++ put_of own by b ∷ []) (get_or_from_slice_get log.payloads payload bytes [] there);
      })

  each_sent : (to : List Member) (log : Log) (old new : FlightView) (lines : List Outcome) → slice_get log.payloads payload ≡ Some bytes → SendsEach by payload to old new lines
      → HasPuts own by bytes to log (with_outcomes own by log lines)
  unfolding with_outcomes
  each_sent to log old new lines there (to_none same is) =
      subst (λ os. HasPuts own by bytes [] log (with_outcomes own by log os)) (sym is) (record { payloads = refl; puts = no_more log.puts })
  each_sent to log old new lines there (to_next {to = t} {others = ts} between line rest first more is) =
      let one = line_so t log old between line there first in
      let mid = with_outcome own by log line in
      let others = each_sent ts mid between new rest (subst (λ ps. slice_get ps payload ≡ Some bytes) (sym one.payloads) there) more in
      let both : HasPuts own by bytes (t ∷ ts) log (with_outcomes own by mid rest) = record {
        payloads = others.payloads ∙ one.payloads;
        puts =
            others.puts ∙ ap (λ ps. ps ++ map (λ (m : Member). put_of own by bytes) ts) one.puts
            ∙ both_ways log.puts (put_of own by bytes ∷ []) (map (λ (m : Member). put_of own by bytes) ts);
      } in
      subst (λ os. HasPuts own by bytes (t ∷ ts) log (with_outcomes own by log os)) (sym is)
      (subst (λ a. HasPuts own by bytes (t ∷ ts) log (with_outcomes own a mid rest)) (sym one.actor) both)

all_same : (p : Put) (to : List Member) (q : Put) → Contains (map (λ (m : Member). p) to) q → p ≡ q
all_same p [] q h = absurd (nothing q h)
all_same p (t ∷ ts) q h = elim (either h) [ inl same ↦ same | inr behind ↦ all_same p ts q behind ]
  where
    either : Contains (p ∷ map (λ (m : Member). p) ts) q → (p ≡ q) ⊎ Contains (map (λ (m : Member). p) ts) q
    either c = first_or_later p (map (λ (m : Member). p) ts) q c

-- ---- a put

module _ (g : GroupView) (is_roster : IsRoster g.roster) (marked : Marked) (marks : MarksKeys g marked) (made : List SumMade) (log : Log) (old new : PartsView) (sender : Sender)
    (to : List Member) (bytes : List ℕ) (lines : List Outcome) (k : Keeps g marked made log old) (h : Puts old sender to bytes new lines) where
  abbrev own : Bool
  own = sender.is_own

  abbrev by : Member
  by = sender.member

  abbrev p : Put
  p = put_of own by bytes

  abbrev copies : List Put
  copies = map (λ (m : Member). p) to

  opens_still : new.payloads.roster ≡ old.payloads.roster → new.payloads.roster ≡ g.roster
  opens_still same = same ∙ k.opens

  group_still : new.group ≡ marked
  group_still = h.members.group ∙ k.group

  notes_so : (content_is : IsContent g.roster bytes h.payload.content) → NotesFront g.roster own bytes old.auditor h.audits.between
  notes_so content_is =
      front_noted g.roster bytes own h.payload.content old.auditor h.audits.between content_is
      (subst (λ (r : RosterView). NotesOwn r own (front_of h.payload.content) old.auditor h.audits.between) k.opens h.audits.own)

  -- ---- bytes that weren't put before
  module _ (is_new : h.number.is_new ≡ true) where
    numbered_new : IsNumberedBy old.payloads bytes new.payloads h.number.number true
    numbered_new = subst (IsNumberedBy old.payloads bytes new.payloads h.number.number) is_new h.numbered

    abbrev x : PayloadView
    x = numbered_new.2

    abbrev mid : Log
    mid = record log { payloads = log.payloads ++ bytes ∷ []; puts = log.puts ++ p ∷ [] }

    items_new : new.payloads.items ≡ old.payloads.items ++ x ∷ []
    items_new = ap (λ (v : PayloadsView). v.items) numbered_new.5

    there_new : slice_get mid.payloads h.number.number ≡ Some bytes
    there_new =
        subst (λ n. slice_get mid.payloads n ≡ Some bytes)
        (sym (numbered_new.1 ∙ sym (length-map old.payloads.items (λ (y : PayloadView). y.bytes)) ∙ ap (λ (bs : List (List ℕ)). length bs) (sym k.payloads.numbers)))
        (place_at_end log.payloads bytes)

    payload_is : h.payload ≡ x
    payload_is =
        same_Some h.payload x (sym h.there ∙ ap (λ (ys : List PayloadView). slice_get ys h.number.number) items_new
        ∙ subst (λ n. slice_get (old.payloads.items ++ x ∷ []) n ≡ Some x) (sym numbered_new.1) (place_at_end old.payloads.items x))

    content_new : IsContent g.roster bytes h.payload.content
    content_new =
        subst (λ (r : RosterView). IsContent r bytes h.payload.content) k.opens
        (subst (λ (y : PayloadView). IsContent old.payloads.roster bytes y.content) (sym payload_is) numbered_new.4)

    looked : LooksIfNew old.payloads.roster old.group true bytes h.payload.content h.audits.between new.auditor
    looked = subst (λ t. LooksIfNew old.payloads.roster old.group t bytes h.payload.content h.audits.between new.auditor) is_new h.audits.first

    sends_new : HasPuts own by bytes to mid (with_outcomes own by mid h.sent)
    sends_new = each_sent own by h.number.number bytes to mid old.flight new.flight h.sent there_new h.sends

    puts_new : (with_outcomes own by mid h.sent).puts ≡ (log.puts ++ p ∷ []) ++ copies
    puts_new = sends_new.puts

    in_after : (q : Put) → Contains (log.puts ++ p ∷ []) q → Contains (with_outcomes own by mid h.sent).puts q
    in_after q there = subst (λ ps. Contains ps q) (sym puts_new) (Contains-append_left (log.puts ++ p ∷ []) copies q there)

    p_in : Contains (with_outcomes own by mid h.sent).puts p
    p_in = in_after p (Contains-push log.puts p)

    payloads_new : FitsPayloads g.roster (with_outcomes own by mid h.sent) new.payloads
    payloads_new = record {
      numbers =
          sends_new.payloads ∙ ap (λ (bs : List (List ℕ)). bs ++ bytes ∷ []) k.payloads.numbers
          ∙ ap (λ (b : List ℕ). map (λ (y : PayloadView). y.bytes) old.payloads.items ++ b ∷ []) (sym numbered_new.3)
          ∙ sym (map-append (λ (y : PayloadView). y.bytes) old.payloads.items (x ∷ []))
          ∙ ap (map (λ (y : PayloadView). y.bytes)) (sym items_new);
      put = λ y there. elim (Contains-append_cases old.payloads.items (x ∷ []) y (subst (λ (ys : List PayloadView). Contains ys y) items_new there)) [
        | inl before ↦ let q = k.payloads.put y before in (q.0, in_after q.0 (Contains-append_left log.puts (p ∷ []) q.0 q.1), q.2)
        | inr last ↦ (p, p_in, sym numbered_new.3 ∙ ap (λ (z : PayloadView). z.bytes) (only x y last))
      ];
      content = λ y there. elim (Contains-append_cases old.payloads.items (x ∷ []) y (subst (λ (ys : List PayloadView). Contains ys y) items_new there)) [
        | inl before ↦ k.payloads.content y before
        | inr last ↦ subst (λ (z : PayloadView). IsContent g.roster z.bytes z.content) (only x y last)
            (subst (λ (b : List ℕ). IsContent g.roster b x.content) (sym numbered_new.3) (subst (λ (r : RosterView). IsContent r bytes x.content) k.opens numbered_new.4))
      ];
    }

    module _ (own_front : IsOwnFront g p) where
      knows_first : Knows g (log.puts ++ p ∷ []) made new.auditor
      knows_first =
          let looks : Looks g.roster marked h.audits.between looked.between bytes =
          subst (λ (r : RosterView). Looks r marked h.audits.between looked.between bytes) k.opens
          (subst (λ (m : Marked). Looks old.payloads.roster m h.audits.between looked.between bytes) k.group looked.looks) in
          first_put g is_roster marked marks log.puts made p old.auditor h.audits.between looked.between new.auditor (with_shown_in h.payload.content) own_front k.knows
          (notes_so content_new) looks looked.strings (content_shows g.roster bytes h.payload.content content_new)

      knows_new : Knows g (with_outcomes own by mid h.sent).puts made new.auditor
      knows_new =
          subst (λ ps. Knows g ps made new.auditor) (sym puts_new)
          (put_often g (log.puts ++ p ∷ []) copies made p p new.auditor (Contains-push log.puts p) refl (all_same p to)
          (λ is who s front. knows_first.signed who s (was_last g log.puts who s p is (own_front is who s front) front)) knows_first)

    lines_new : lines ≡ outcomes.Post h.number.number by bytes ∷ h.sent
    lines_new = h.told ∙ ap (λ (t : Bool). cond t (outcomes.Post h.number.number by bytes ∷ []) [] ++ h.sent) is_new

    log_new : with_outcomes own by log lines ≡ with_outcomes own by mid h.sent
    unfolding with_outcomes with_outcome
    log_new = ap (with_outcomes own by log) lines_new

    put_new : AreOwn g (with_outcomes own by log lines).puts → Keeps g marked made (with_outcomes own by log lines) new
    put_new are = subst (λ l. Keeps g marked made l new) (sym log_new) (record {
      opens = opens_still (ap (λ (v : PayloadsView). v.roster) numbered_new.5);
      group = group_still;
      payloads = payloads_new;
      knows = knows_new (are p (subst (λ (l : Log). Contains l.puts p) (sym log_new) p_in));
    })

  -- ---- bytes that were put before
  module _ (is_old : h.number.is_new ≡ false) where
    numbered_old : IsNumberedBy old.payloads bytes new.payloads h.number.number false
    numbered_old = subst (IsNumberedBy old.payloads bytes new.payloads h.number.number) is_old h.numbered

    abbrev y : PayloadView
    y = numbered_old.1

    there_old : slice_get log.payloads h.number.number ≡ Some bytes
    there_old =
        ap (λ (bs : List (List ℕ)). slice_get bs h.number.number) k.payloads.numbers ∙ slice_get-map (λ (z : PayloadView). z.bytes) old.payloads.items h.number.number
        ∙ ap (option_map (λ (z : PayloadView). z.bytes)) numbered_old.2 ∙ ap Some numbered_old.3

    among_old : Contains old.payloads.items y
    among_old = one_at old.payloads.items h.number.number y numbered_old.2

    was_put : (q : Put) × Contains log.puts q × (q.bytes ≡ bytes)
    was_put = let q = k.payloads.put y among_old in (q.0, q.1, q.2 ∙ numbered_old.3)

    payload_old : h.payload ≡ y
    payload_old = same_Some h.payload y (sym h.there ∙ ap (λ (v : PayloadsView). slice_get v.items h.number.number) numbered_old.0 ∙ numbered_old.2)

    content_old : IsContent g.roster bytes h.payload.content
    content_old =
        subst (λ (z : PayloadView). IsContent g.roster bytes z.content) (sym payload_old)
        (subst (λ b. IsContent g.roster b y.content) numbered_old.3 (k.payloads.content y among_old))

    auditor_old : new.auditor ≡ h.audits.between
    auditor_old = subst (λ t. LooksIfNew old.payloads.roster old.group t bytes h.payload.content h.audits.between new.auditor) is_old h.audits.first

    sends_old : HasPuts own by bytes to log (with_outcomes own by log h.sent)
    sends_old = each_sent own by h.number.number bytes to log old.flight new.flight h.sent there_old h.sends

    noted : p.own ≡ true → (who : SignerId) (s : Statement) → IsInFront g.roster p.bytes who s → HasSigned h.audits.between.signed g.roster who s
    noted is who s front = ((notes_so content_old).signed (signed_bytes_of (digest_of g.roster) who (statement_bytes s))).1 (inr (is, who, s, front, refl))

    knows_old : Knows g (with_outcomes own by log h.sent).puts made new.auditor
    knows_old =
        subst (λ ps. Knows g ps made new.auditor) (sym sends_old.puts)
        (subst (Knows g (log.puts ++ copies) made) (sym auditor_old)
        (put_often g log.puts copies made p was_put.0 h.audits.between was_put.1 was_put.2 (all_same p to) noted
        (noted_again g is_roster log.puts made own bytes was_put.0 old.auditor h.audits.between was_put.1 was_put.2 (notes_so content_old) k.knows)))

    lines_old : lines ≡ h.sent
    lines_old = h.told ∙ ap (λ (t : Bool). cond t (outcomes.Post h.number.number by bytes ∷ []) [] ++ h.sent) is_old

    put_old : Keeps g marked made (with_outcomes own by log lines) new
    put_old = subst (λ os. Keeps g marked made (with_outcomes own by log os) new) (sym lines_old) (record {
      opens = opens_still (ap (λ (v : PayloadsView). v.roster) numbered_old.0);
      group = group_still;
      payloads = subst (FitsPayloads g.roster (with_outcomes own by log h.sent)) (sym numbered_old.0) (record {
        numbers = sends_old.payloads ∙ k.payloads.numbers;
        put = λ z there. let q = k.payloads.put z there in
            (q.0, subst (λ ps. Contains ps q.0) (sym sends_old.puts) (Contains-append_left log.puts copies q.0 q.1), q.2);
        content = k.payloads.content;
      });
      knows = knows_old;
    })

  -- what is put is known
  pub put_is_known : AreOwn g (with_outcomes own by log lines).puts → Keeps g marked made (with_outcomes own by log lines) new
  put_is_known are = elim (cases_Bool h.number.is_new) [ inl is_new ↦ put_new is_new are | inr is_old ↦ put_old is_old ]
