-- Which members are corrupt, as their flags are set.
use Rattle.std.proofs.Common.{◌≡◌, ℕ, ◌+◌, ◌<◌, List, Bool, true, false, length, get_or, set, take, refl, ap, sym, subst, ◌∙◌, arith}
use Rattle.std.specs.Prelude.{Contains, ◌||◌, ◌==◌}
use Rattle.std.specs.List.{list_any}
use mathlib.Core.Bool.{beq}
use Rattle.std.proofs.lemmas.List.{get_or-set_same, get_or-set_other}
use Rattle.std.proofs.lemmas.List.Folds.{Any-from_list_any, list_any-from_Any, list_any_more}
use Rattle.std.proofs.lemmas.Map.Views.{exact_unsigned_eq}
use Rattle.dn_wire.specs.declared.ids.ServerId.{ServerId}
use Rattle.dn_wire.specs.declared.ids.ClientId.{ClientId}
use Rattle.dn_wire.specs.declared.ids.Member.{Member}
use Rattle.dn_wire.specs.declared.ids.Member.TheVariants.{Client, Server}
use Rattle.dn_audit.specs.Group.{GroupView, IsHonestServer, is_member, is_listed}

-- a flag that isn't set is that of an honest server
pub some_honest : (g : GroupView) → Contains g.servers false → (j : ServerId) × IsHonestServer g j
some_honest g h = (record { 0 = h.0 }, record { within = h.1; honest = h.2 })

pub honest_some : (g : GroupView) (j : ServerId) → IsHonestServer g j → Contains g.servers false
honest_some g j is = (j.0, is.within, is.honest)

or_true : (b : Bool) → (b || true) ≡ true
or_true true = refl
or_true false = refl

or_false : (b : Bool) → (b || false) ≡ b
or_false true = refl
or_false false = refl

false_is_not_true : false ≡ true → ⊥
false_is_not_true h = grind (arith, h)

yes : (x y : ℕ) → x ≡ y → (x == y) ≡ true
yes x y same = grind (arith, same)

is_false : (b : Bool) → (beq b false ≡ true → b ≡ false) × (b ≡ false → beq b false ≡ true)
is_false true = (λ h. sym h, λ h. sym h)
is_false false = (λ h. refl, λ h. refl)

-- a test for false finds it
pub found : (flags : List Bool) → list_any (λ b. beq b false) flags ≡ true → Contains flags false
found flags h =
    let a = Any-from_list_any (λ b. beq b false) flags h in
    let is = (is_false a.1).0 a.4 in
    subst (Contains flags) is (a.0, a.2, a.3)

pub finds : (flags : List Bool) → Contains flags false → list_any (λ b. beq b false) flags ≡ true
finds flags h = list_any-from_Any (λ b. beq b false) flags (h.0, false, h.1, h.2, refl)

-- one flag more is set
set_by : (flags : List Bool) (place k : ℕ) (t : Bool) → (k == place) ≡ t → k < length flags → get_or (set flags place true) k false ≡ (get_or flags k false || t)
set_by flags place k true is within =
    let same = exact_unsigned_eq k place is in
    ap (λ n. get_or (set flags n true) k false) (sym same) ∙ get_or-set_same flags k true false within ∙ sym (or_true (get_or flags k false))
set_by flags place k false is within =
    get_or-set_other flags place k true false (λ same. false_is_not_true (sym is ∙ yes k place same)) ∙ sym (or_false (get_or flags k false))

pub set_more : (flags : List Bool) (place k : ℕ) → k < length flags → get_or (set flags place true) k false ≡ (get_or flags k false || (k == place))
set_more flags place k within = set_by flags place k (k == place) refl within

module _ (flags : List Bool) (corrupt : List Member) (i : ℕ) (d : Member) (within : i < length corrupt) (k : ℕ) (here : k < length flags) where
  -- a client is listed that far
  pub client_more : (place : ℕ) → get_or corrupt i d ≡ Client record { 0 = place } → get_or flags k false ≡ is_listed (take i corrupt) (Client record { 0 = k })
      → get_or (set flags place true) k false ≡ is_listed (take (i + 1) corrupt) (Client record { 0 = k })
  client_more place is before =
      set_more flags place k here ∙ ap (λ b. b || (k == place)) before
      ∙ ap (λ m. is_listed (take i corrupt) (Client record { 0 = k }) || is_member (Client record { 0 = k }) m) (sym is)
      ∙ sym (list_any_more (is_member (Client record { 0 = k })) corrupt i d within)

  pub server_more : (place : ℕ) → get_or corrupt i d ≡ Server record { 0 = place } → get_or flags k false ≡ is_listed (take i corrupt) (Server record { 0 = k })
      → get_or (set flags place true) k false ≡ is_listed (take (i + 1) corrupt) (Server record { 0 = k })
  server_more place is before =
      set_more flags place k here ∙ ap (λ b. b || (k == place)) before
      ∙ ap (λ m. is_listed (take i corrupt) (Server record { 0 = k }) || is_member (Server record { 0 = k }) m) (sym is)
      ∙ sym (list_any_more (is_member (Server record { 0 = k })) corrupt i d within)

  -- who isn't a client doesn't make one listed, nor the other way round
  pub client_stays : (place : ServerId) → get_or corrupt i d ≡ Server place → get_or flags k false ≡ is_listed (take i corrupt) (Client record { 0 = k })
      → get_or flags k false ≡ is_listed (take (i + 1) corrupt) (Client record { 0 = k })
  client_stays place is before =
      before ∙ sym (or_false (is_listed (take i corrupt) (Client record { 0 = k })))
      ∙ ap (λ m. is_listed (take i corrupt) (Client record { 0 = k }) || is_member (Client record { 0 = k }) m) (sym is)
      ∙ sym (list_any_more (is_member (Client record { 0 = k })) corrupt i d within)

  pub server_stays : (place : ClientId) → get_or corrupt i d ≡ Client place → get_or flags k false ≡ is_listed (take i corrupt) (Server record { 0 = k })
      → get_or flags k false ≡ is_listed (take (i + 1) corrupt) (Server record { 0 = k })
  server_stays place is before =
      before ∙ sym (or_false (is_listed (take i corrupt) (Server record { 0 = k })))
      ∙ ap (λ m. is_listed (take i corrupt) (Server record { 0 = k }) || is_member (Server record { 0 = k }) m) (sym is)
      ∙ sym (list_any_more (is_member (Server record { 0 = k })) corrupt i d within)
