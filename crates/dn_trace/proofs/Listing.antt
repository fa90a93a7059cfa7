-- Tables of flags and faults, and the lists made of them.
use Rattle.std.proofs.Common.{◌≡◌, ℕ, ◌+◌, ◌<◌, Bool, true, false, List, [], ◌∷◌, ◌++◌, length, get_or, take, refl, sym, ap, ◌∙◌, subst, arith, inl, inr, Option, Some, None, length-append}
use Rattle.std.specs.Prelude.{◌↔◌, IsTrue, map}
use Rattle.std.proofs.lemmas.Grind.{common_steps}
use Rattle.std.proofs.lemmas.Bool.{cases_lt}
use Rattle.std.proofs.lemmas.List.{take_more, append_assoc}
use Rattle.std.proofs.lemmas.List.FromFn.{map-range_with_len_more}
use Rattle.dn_bits.specs.Bits.{below}
use Rattle.dn_wire.specs.declared.ids.Member.{Member}
use Rattle.dn_trace.specs.declared.fault.Fault.{Fault}
use Rattle.dn_trace.specs.Evidence.{Tells}
use Rattle.dn_trace.specs.Tables.{blames_from, members_from}

at_push : {X : Type 0} (xs : List X) (x d : X) → get_or (xs ++ x ∷ []) (length xs) d ≡ x
at_push [] x d = refl
at_push (y ∷ ys) x d = at_push ys x d

before_push : {X : Type 0} (xs : List X) (x d : X) (k : ℕ) → k < length xs → get_or (xs ++ x ∷ []) k d ≡ get_or xs k d
before_push xs x d k lt = grind (arith, common_steps)

-- what holds of each place holds with one more
pub each_push : {X : Type 0} (P : ℕ → X → Type 0) (d : X) (xs : List X) (x : X) (j : ℕ) → length xs ≡ j → ((k : ℕ) → k < j → P k (get_or xs k d)) → P j x
    → (k : ℕ) → k < j + 1 → P k (get_or (xs ++ x ∷ []) k d)
each_push P d xs x j long old new k lt = elim (cases_lt k j) [
  | inl less ↦ subst (P k) (sym (before_push xs x d k (omega arith))) (old k less)
  | inr ge ↦
      let same : j ≡ k = omega arith in
      let at : get_or (xs ++ x ∷ []) k d ≡ x = ap (λ n. get_or (xs ++ x ∷ []) n d) (sym same ∙ sym long) ∙ at_push xs x d in
      subst (P k) (sym at) (subst (λ n. P n x) same new)
]

pub tells_none : (P : ℕ → Type 0) → Tells [] 0 P
tells_none P = record { size = refl; each = λ i lt. absurd (omega arith) }

pub tells_push : (P : ℕ → Type 0) (flags : List Bool) (j : ℕ) (b : Bool) → Tells flags j P → IsTrue b ↔ P j → Tells (flags ++ b ∷ []) (j + 1) P
tells_push P flags j b old new = record {
  size = length-append flags (b ∷ []) ∙ ap (λ n. n + 1) old.size;
  each = each_push (λ k x. IsTrue x ↔ P k) false flags b j old.size old.each new;
}

pub map-below_more : {X : Type 0} (f : ℕ → X) (j : ℕ) → map f (below (j + 1)) ≡ map f (below j) ++ f j ∷ []
map-below_more f j = map-range_with_len_more f 0 j j (omega arith)

-- a member with its fault, where it has one
abbrev pub blame_of : Member → Option Fault → List (Member × Fault)
blame_of member None = []
blame_of member (Some fault) = (member, fault) ∷ []

abbrev pub member_of : Member → Bool → List Member
member_of member true = member ∷ []
member_of member false = []

blames-push : (member : ℕ → Member) (n : ℕ) (faults : List (Option Fault)) (fault : Option Fault) (k : ℕ) → n + length faults ≡ k
    → blames_from member n (faults ++ fault ∷ []) ≡ blames_from member n faults ++ blame_of (member k) fault
blames-push member n [] None k e = refl
blames-push member n [] (Some fault) k e = let same : n ≡ k = omega arith in ap (λ j. (member j, fault) ∷ []) same
blames-push member n (None ∷ faults) fault k e = blames-push member (n + 1) faults fault k (omega arith)
blames-push member n (Some f ∷ faults) fault k e = ap (λ l. (member n, f) ∷ l) (blames-push member (n + 1) faults fault k (omega arith))

members-push : (member : ℕ → Member) (n : ℕ) (flags : List Bool) (flag : Bool) (k : ℕ) → n + length flags ≡ k
    → members_from member n (flags ++ flag ∷ []) ≡ members_from member n flags ++ member_of (member k) flag
members-push member n [] false k e = refl
members-push member n [] true k e = let same : n ≡ k = omega arith in ap (λ j. member j ∷ []) same
members-push member n (false ∷ flags) flag k e = members-push member (n + 1) flags flag k (omega arith)
members-push member n (true ∷ flags) flag k e = ap (λ l. member n ∷ l) (members-push member (n + 1) flags flag k (omega arith))

length_take : {X : Type 0} (xs : List X) (j : ℕ) → j < length xs → length (take j xs) ≡ j
length_take xs j lt = grind (arith, common_steps)

pub blames_more : (member : ℕ → Member) (faults : List (Option Fault)) (j : ℕ) → j < length faults
    → blames_from member 0 (take (j + 1) faults) ≡ blames_from member 0 (take j faults) ++ blame_of (member j) (get_or faults j None)
blames_more member faults j lt =
    ap (blames_from member 0) (take_more faults j None lt)
    ∙ blames-push member 0 (take j faults) (get_or faults j None) j (let long = length_take faults j lt in omega arith)

pub members_more : (member : ℕ → Member) (flags : List Bool) (j : ℕ) → j < length flags
    → members_from member 0 (take (j + 1) flags) ≡ members_from member 0 (take j flags) ++ member_of (member j) (get_or flags j false)
members_more member flags j lt =
    ap (members_from member 0) (take_more flags j false lt)
    ∙ members-push member 0 (take j flags) (get_or flags j false) j (let long = length_take flags j lt in omega arith)

pub listed_more : (member : ℕ → Member) (flags : List Bool) (j : ℕ) (b : Bool) (old now new : List Member) → j < length flags → get_or flags j false ≡ b
    → now ≡ old ++ members_from member 0 (take j flags) → new ≡ now ++ member_of (member j) b → new ≡ old ++ members_from member 0 (take (j + 1) flags)
listed_more member flags j b old now new lt is before here =
    here ∙ ap (λ l. l ++ member_of (member j) b) before ∙ append_assoc old (members_from member 0 (take j flags)) (member_of (member j) b)
    ∙ ap (λ l. old ++ l) (ap (λ x. members_from member 0 (take j flags) ++ member_of (member j) x) (sym is) ∙ sym (members_more member flags j lt))

pub blamed_more : (member : ℕ → Member) (faults : List (Option Fault)) (j : ℕ) (f : Option Fault) (old now new : List (Member × Fault)) → j < length faults → get_or faults j None ≡ f
    → now ≡ old ++ blames_from member 0 (take j faults) → new ≡ now ++ blame_of (member j) f → new ≡ old ++ blames_from member 0 (take (j + 1) faults)
blamed_more member faults j f old now new lt is before here =
    here ∙ ap (λ l. l ++ blame_of (member j) f) before ∙ append_assoc old (blames_from member 0 (take j faults)) (blame_of (member j) f)
    ∙ ap (λ l. old ++ l) (ap (λ x. blames_from member 0 (take j faults) ++ blame_of (member j) x) (sym is) ∙ sym (blames_more member faults j lt))
