-- A pass after a join.
use Rattle.std.proofs.Common.{◌≡◌, ℕ, ◌<◌, ◌≤◌, min, List, [], length, sym, ap, ◌∙◌, subst, arith, Option, Some, None, IfSome, length-append}
use lib.ListN.{get_elem?}
use Rattle.atomic_table.specs.Table.{Me, Step}
use Rattle.dn_turns.specs.Logs.{Follows, GrowsBelow}
use Rattle.dn_counts.specs.Numbers.{first_some}
use Rattle.dn_turns.specs.Rule.{limit, joined, settled, Settles}
use Rattle.dn_counts.specs.Numbers.{least}
use Rattle.dn_turns.specs.Turns.{IsPass}
use Rattle.dn_turns.specs.declared.view.View.{View}
use Rattle.dn_counts.proofs.Least.{least-append}

module _ {E B L : Type 0} (list : L → List (ℕ × E)) (base_of : L → B) where
  abbrev At : Type 0
  At = Me (Option L) (View E B)

  pub joined_pass : (st : Step (Option L)) (v w : View E B) (m n : At) (r number : ℕ) (full : Option ℕ) → m ≡ (joined v w, []) → Settles list base_of st m r n
      → 0 < length v.numbers → 0 < length w.numbers → v.ticket ≡ None → v.turn ≡ None → number ≡ min (least v.numbers) (least w.numbers) → full ≡ first_some v.full w.full → IfSome v.full (λ k. limit ≤ k) → IfSome w.full (λ k. limit ≤ k)
      → IsPass list base_of n number full
  joined_pass st v w m n r number full e told lv lw tick idle num fu pv pw =
      let is : n ≡ (settled (joined v w), []) = told.0 ∙ ap (λ (x : At). (settled x.0, x.1)) e in
      record {
        live = omega (arith, ap (λ (x : At). length x.0.numbers) is, length-append v.numbers w.numbers);
        least = num ∙ sym (least-append v.numbers w.numbers lv lw) ∙ sym (ap (λ (x : At). least x.0.numbers) is);
        same = fu ∙ sym (ap (λ (x : At). x.0.full) is);
        past = subst (λ o. IfSome o (λ k. limit ≤ k)) (sym fu) (either_past v.full w.full pv pw);
        settled = ap (λ (x : At). x.0.met) is;
        out = λ _. (ap (λ (x : At). x.1) is, ap (λ (x : At). x.0.ticket) is ∙ tick);
        lent = λ g turned. absurd (off (sym turned ∙ ap (λ (x : At). x.0.turn) is ∙ idle));
      }
    where
      either_past : (o q : Option ℕ) → IfSome o (λ k. limit ≤ k) → IfSome q (λ k. limit ≤ k) → IfSome (first_some o q) (λ k. limit ≤ k)
      either_past None q a b = b
      either_past (Some k) q a b = a

      off : {g : List (ℕ × E)} → Some g ≡ None → ⊥
      off q = cc

  pub both_seen : (st : Step (Option L)) (v w : View E B) (m n : At) (r : ℕ) → m ≡ (joined v w, []) → Settles list base_of st m r n → Follows v.numbers v.seen n.0.seen × Follows w.numbers w.seen n.0.seen
  both_seen st v w m n r e told =
      let is : n.0.seen ≡ m.0.seen = ap (λ (x : At). x.0.seen) told.0 in (
        subst (Follows v.numbers v.seen) (sym is) (told.1 0 (v.numbers, v.seen) (ap (λ (x : At). get_elem? x.0.met 0) e)).0,
        subst (Follows w.numbers w.seen) (sym is) (told.1 1 (w.numbers, w.seen) (ap (λ (x : At). get_elem? x.0.met 1) e)).0,
      )

  pub both_grow : (st : Step (Option L)) (v w : View E B) (m n : At) (r : ℕ) → m ≡ (joined v w, []) → Settles list base_of st m r n → GrowsBelow v.passes v.seen n.0.seen × GrowsBelow v.passes w.seen n.0.seen
  both_grow st v w m n r e told =
      let is : n.0.seen ≡ m.0.seen = ap (λ (x : At). x.0.seen) told.0 in
      let same : m.0.passes ≡ v.passes = ap (λ (x : At). x.0.passes) e in (
        subst (λ (x : ℕ × List (ℕ × E)). GrowsBelow x.0 v.seen x.1) (λ i. (same i, sym is i)) (told.1 0 (v.numbers, v.seen) (ap (λ (x : At). get_elem? x.0.met 0) e)).1,
        subst (λ (x : ℕ × List (ℕ × E)). GrowsBelow x.0 w.seen x.1) (λ i. (same i, sym is i)) (told.1 1 (w.numbers, w.seen) (ap (λ (x : At). get_elem? x.0.met 1) e)).1,
      )
