use Rattle.std.proofs.Common.{arith, ◌≡◌, ◌≢◌, ◌+◌, ◌++◌, ◌∷◌, [], ℕ, refl, ap, sym, subst, ◌∙◌, length, inl, true, false}
use Rattle.std.proofs.lemmas.List.{length-map}
use Rattle.dn_flight.specs.Arena.{none, node_at, ends_at, msg_of}
use Rattle.dn_flight.specs.Whole.{IsKept, msgs_at, msgs_in}
use Rattle.dn_flight.specs.declared.msg.Msg.{Msg}
use Rattle.dn_flight.proofs.Entries.{insert_last}
use Rattle.dn_flight.proofs.Room.{full_where, kept_in, all_below}
use Rattle.dn_flight.proofs.flight.Flight.put.Goals as goal

pub invariant_of-self : goal.invariant_of-self
invariant_of-self c = kept_in c.self.inside.arena c.room.new.self c.self.inside.places.entries c.self.inside.next c.room.ensures.rest.0 c.room.ensures.rest.1 c.room.ensures.same c.self.invariant

pub invariant_of-self-in_default-insert : goal.invariant_of-self-in_default-insert
invariant_of-self-in_default-insert c = subst (λ l. IsKept c.room.new.self l c.self.inside.next) (sym c.in_default-insert.ensures.err)
    (kept_in c.self.inside.arena c.room.new.self c.self.inside.places.entries c.self.inside.next c.room.ensures.rest.0 c.room.ensures.rest.1 c.room.ensures.same c.self.invariant)

pub put-requires-clause-whole : goal.put-requires-clause-whole
put-requires-clause-whole c = (
  c.self.inside.places.entries,
  kept_in c.self.inside.arena c.room.new.self c.self.inside.places.entries c.self.inside.next c.room.ensures.rest.0 c.room.ensures.rest.1 c.room.ensures.same c.self.invariant,
)

pub put-requires-clause-room : goal.put-requires-clause-room
put-requires-clause-room c =
    let a = c.self.inside.arena in
    let full = full_where (node_at a.links.nodes) (ends_at a.links.heads.held) a.free c.self.inside.places.entries c.self.inside.next c.self.invariant.whole in
    let held = sym (length-map c.self.inside.places.entries (λ e. msg_of (node_at a.links.nodes e.1))) ∙ ap (λ v. length v.msgs) c.self.view_is in
    let some : a.free ≢ none = λ q. absurd (true_false (sym (c.is_full.ensures.1 (inl (omega (arith, held, full.0 q)))) ∙ c.if-is_full.false)) in
    omega (arith, full.2, c.room.ensures.rest.1, some)
  where
    true_false : true ≡ false → ⊥
    true_false h = cc

pub invariant_of-self-2 : goal.invariant_of-self-2
invariant_of-self-2 c =
    let es = c.self.inside.places.entries in
    let next : ℕ = c.self.inside.next in
    let room = kept_in c.self.inside.arena c.room.new.self es next c.room.ensures.rest.0 c.room.ensures.rest.1 c.room.ensures.same c.self.invariant in
    let last = c.in-Ok-insert.ensures.entries ∙ insert_last es next c.room.new.self.free (all_below c.self.inside.arena es next c.self.invariant) in
    subst (λ l. IsKept c.put.new.self l (next + 1)) (sym last) (c.put.ensures.whole es room).0

pub returns-clause-put : goal.returns-clause-put
returns-clause-put c =
    let es = c.self.inside.places.entries in
    let next : ℕ = c.self.inside.next in
    let a = c.self.inside.arena in
    let it : Msg = record { id = next; from = c.args.from; to = c.args.to; payload = c.args.payload } in
    let room = kept_in a c.room.new.self es next c.room.ensures.rest.0 c.room.ensures.rest.1 c.room.ensures.same c.self.invariant in
    let last = c.in-Ok-insert.ensures.entries ∙ insert_last es next c.room.new.self.free (all_below a es next c.self.invariant) in (
      ap (λ v. v.next) c.self.view_is,
      ap (msgs_in c.put.new.self) last ∙ (c.put.ensures.whole es room).1
          ∙ ap (λ l. msgs_at (node_at l) es ++ it ∷ []) c.room.ensures.rest.0 ∙ ap (λ v. v.msgs ++ it ∷ []) c.self.view_is,
      refl,
    )
