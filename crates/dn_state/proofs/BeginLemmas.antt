-- Cores as they are made, and the seeds that the audit is told.
use Rattle.std.proofs.Common.{◌≡◌, ◌+◌, ℕ, zero, suc, List, [], ◌∷◌, ◌++◌, Option, Some, length, map, refl, sym, ap, subst, ◌∙◌, arith}
use Rattle.std.specs.Prelude.{slice_get}
use Rattle.std.proofs.lemmas.List.{append-nil, append_assoc, length_push}
use Rattle.std.proofs.lemmas.List.FromFn.{map-range_with_len_more}
use Rattle.dn_wire.specs.declared.ids.Member.TheVariants as members
use Rattle.dn_bits.specs.Bits.{below}
use Rattle.dn_roster.specs.declared.group.GroupSpec.{GroupSpec}
use Rattle.dn_roster.specs.Roster.{RosterView}
use Rattle.dn_roster.proofs.DealingLemmas.{flat_map-more}
use Rattle.dn_client.specs.Client.{ClientView}
use Rattle.dn_audit.specs.Group.{GroupView, is_corrupt}
use Rattle.dn_audit.specs.Strings.{Hashed}
use Rattle.dn_audit.specs.Auditor.{AuditorView, TellsOf, AddsStrings}
use Rattle.dn_state.specs.Beginning.{IsClientPlace, AreClients, hashed_dealt, seeds_of, seeds_below}

-- what holds at each place, with one place more
pub pushed_at : {A : Type 0} (P : ℕ → A → Type 0) (xs : List A) (x : A) → ((k : ℕ) (y : A) → slice_get xs k ≡ Some y → P k y) → P (length xs) x
    → (k : ℕ) (y : A) → slice_get (xs ++ x ∷ []) k ≡ Some y → P k y
pushed_at P [] x each last zero y at = let same : x ≡ y = cc in subst (P zero) same last
pushed_at P [] x each last (suc k) y at = let none : ⊥ = cc in absurd none
pushed_at P (z ∷ xs) x each last zero y at = each zero y at
pushed_at P (z ∷ xs) x each last (suc k) y at = pushed_at (λ n. P (suc n)) xs x (λ n w. each (suc n) w) last k y at

-- one client more
pub clients_more : (group : GroupSpec) (roster : RosterView) (m : GroupView) (clients : List (Option ClientView)) (place : Option ClientView) (n : ℕ)
    → AreClients group roster m clients n → IsClientPlace group roster (record { 0 = n }) (is_corrupt m (members.Client record { 0 = n })) place
    → AreClients group roster m (clients ++ place ∷ []) (n + 1)
clients_more group roster m clients place n are is =
    let P : ℕ → Option ClientView → Type 0 = λ k p. IsClientPlace group roster (record { 0 = k }) (is_corrupt m (members.Client record { 0 = k })) p in
    record {
      long = length_push clients place ∙ ap (λ k. k + 1) are.long;
      each = λ i p at. pushed_at P clients place (λ k y. are.each (record { 0 = k }) y) (subst (λ k. P k place) (sym are.long) is) i.0 p at;
    }

-- no seed is told
pub adds_no_seeds : (a : AuditorView) → AddsStrings a a (λ x. record x { seeds = x.seeds ++ [] })
adds_no_seeds a = record {
  signed = refl;
  are_theirs = refl;
  tells = λ x tells. subst (λ s. TellsOf a (record x { seeds = s })) (sym (append-nil x.seeds)) tells;
}

-- seeds that are told after others
pub adds_seeds : (a b c : AuditorView) (xs ys zs : List Hashed) → AddsStrings a b (λ x. record x { seeds = x.seeds ++ xs }) → AddsStrings b c (λ x. record x { seeds = x.seeds ++ ys })
    → zs ≡ xs ++ ys → AddsStrings a c (λ x. record x { seeds = x.seeds ++ zs })
adds_seeds a b c xs ys zs first rest all = record {
  signed = rest.signed ∙ first.signed;
  are_theirs = rest.are_theirs ∙ first.are_theirs;
  tells = λ x tells.
      subst (λ s. TellsOf c (record x { seeds = s })) (append_assoc x.seeds xs ys ∙ ap (λ l. x.seeds ++ l) (sym all))
      (rest.tells (record x { seeds = x.seeds ++ xs }) (first.tells x tells));
}

-- the seeds of a client with one server more, and those of clients with one more
pub seeds_more : (group : GroupSpec) (i j : ℕ) → map (hashed_dealt group i) (below (j + 1)) ≡ map (hashed_dealt group i) (below j) ++ hashed_dealt group i j ∷ []
seeds_more group i j = map-range_with_len_more (hashed_dealt group i) 0 j j (omega arith)

pub rows_more : (group : GroupSpec) (i : ℕ) → seeds_below group (i + 1) ≡ seeds_below group i ++ seeds_of group i
rows_more group i = flat_map-more (seeds_of group) i
