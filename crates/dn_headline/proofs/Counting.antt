-- How many rows of a list are a client's.
use Rattle.std.proofs.Common.{◌≡◌, ℕ, suc, ◌+◌, inl, inr, false, List, [], ◌∷◌, map, length, refl, ap, ◌∙◌, arith}
use Rattle.std.specs.Prelude.{Contains, filter, ◌==◌}
use Rattle.std.proofs.lemmas.Bool.{cases_eq, eq-eqb, ne_eqb}
use Rattle.dn_wire.specs.declared.ids.ClientId.{ClientId}
use Rattle.dn_record_types.specs.Lists.{AscendFrom}
use Rattle.dn_record_types.specs.declared.body.Listed.{Listed}
use Rattle.dn_cert.proofs.Orders.{here, later, nothing, first_or_later, above_floor}

abbrev pub rows_of : ClientId → List Listed → ℕ
rows_of i ls = length (filter (λ l. l.client.0 == i.0) ls)

pub no_row : (i : ClientId) (ls : List Listed) → ((l : Listed) → Contains ls l → l.client.0 ≡ i.0 → ⊥) → rows_of i ls ≡ 0
no_row i [] none = refl
no_row i (l ∷ ls) none =
    let other : (l.client.0 == i.0) ≡ false = ne_eqb l.client.0 i.0 (none l (here l ls)) in
    rw other (no_row i ls (λ m there. none m (later l ls m there)))

pub one_row : (i : ClientId) (floor : ℕ) (ls : List Listed) (l : Listed) → AscendFrom floor (map (λ (l : Listed). l.client) ls) → Contains ls l → l.client.0 ≡ i.0
    → rows_of i ls ≡ 1
one_row i floor [] l up there same = absurd (nothing l there)
one_row i floor (m ∷ ls) l up there same =
    elim (cases_eq m.client.0 i.0) [
      | inl e ↦
          let none = no_row i ls (λ n behind eq.
          let past = above_floor (λ (l : Listed). l.client) (m.client.0 + 1) ls n up.1 behind in omega (arith, past, eq, e)) in
          rw (eq-eqb m.client.0 i.0 e) (ap suc none)
      | inr ne ↦ elim (first_or_later m ls l there) [
        | inl is ↦ absurd (ne (ap (λ (l : Listed). l.client.0) is ∙ same))
        | inr behind ↦ rw (ne_eqb m.client.0 i.0 ne) (one_row i (m.client.0 + 1) ls l up.1 behind same)
      ]
    ]
