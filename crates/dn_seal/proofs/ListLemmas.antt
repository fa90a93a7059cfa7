-- Lists that grow by one.
use Rattle.std.proofs.Common.{◌<◌, take, get_or, ◌≡◌, ℕ, zero, suc, ◌+◌, ◌*◌, List, [], ◌∷◌, ◌++◌, map, length, sym, ap, ◌∙◌, arith, append_assoc, length-append}
use Rattle.std.specs.List.{flat_map, range_with_len}
use Rattle.std.proofs.Math.Nat.{suc-mul}
use Rattle.std.proofs.lemmas.List.{take_more, map-append, length-map}
use Rattle.std.proofs.lemmas.List.Concat.{flat_map-cons}
use Rattle.std.proofs.lemmas.List.FromFn.{map-range_with_len_more, length-map-range_with_len}
use Rattle.dn_roster.proofs.DealingLemmas.{flat_map-more}
use Rattle.dn_wire.specs.declared.ids.SignerId.{SignerId}
use Rattle.dn_lms.specs.Signature.{public_key}
use Rattle.dn_roster.specs.declared.group.GroupSpec.{GroupSpec}
use Rattle.dn_seal.specs.Dealt.{each_pair, keys_dealt_to, key_dealt_to}

module _ {A : Type 0} where
  pub one_more : (f : ℕ → A) (old new : List A) (j : ℕ) (x : A) → old ≡ map f (range_with_len 0 j) → new ≡ old ++ x ∷ [] → x ≡ f j → new ≡ map f (range_with_len 0 (j + 1))
  one_more f old new j x held pushed is = pushed ∙ (λ i. held i ++ is i ∷ []) ∙ sym (map-range_with_len_more f 0 j j (omega arith))

  pub one_more_behind : (f : ℕ → A) (xs old new : List A) (j : ℕ) (x : A) → old ≡ xs ++ map f (range_with_len 0 j) → new ≡ old ++ x ∷ [] → x ≡ f j → new ≡ xs ++ map f (range_with_len 0 (j + 1))
  one_more_behind f xs old new j x held pushed is =
      pushed ∙ (λ i. held i ++ is i ∷ []) ∙ append_assoc xs (map f (range_with_len 0 j)) (f j ∷ [])
      ∙ ap (λ l. xs ++ l) (sym (map-range_with_len_more f 0 j j (omega arith)))

  pub row_more : (f : ℕ → List A) (old new : List A) (i : ℕ) → old ≡ flat_map f (range_with_len 0 i) → new ≡ old ++ f i → new ≡ flat_map f (range_with_len 0 (i + 1))
  row_more f old new i held appended = appended ∙ ap (λ l. l ++ f i) held ∙ sym (flat_map-more f i)

pub taken_more : {X A : Type 0} (f : X → A) (xs : List X) (old new : List A) (i : ℕ) (x : X) (a : A)
    → old ≡ map f (take i xs) → new ≡ old ++ a ∷ [] → a ≡ f x → x ≡ get_or xs i x → i < length xs → new ≡ map f (take (i + 1) xs)
taken_more f xs old new i x a held pushed is at within =
    pushed ∙ (λ k. held k ++ is k ∷ []) ∙ ap (λ y. map f (take i xs) ++ f y ∷ []) at
    ∙ sym (ap (map f) (take_more xs i x within) ∙ map-append f (take i xs) (get_or xs i x ∷ []))

pub length-each_pair : (f : ℕ → ℕ → List ℕ) (clients servers : ℕ) → length (each_pair f clients servers) ≡ clients * servers
length-each_pair f clients servers = at 0 clients
  where
    at : (a n : ℕ) → length (flat_map (λ i. map (f i) (range_with_len 0 servers)) (range_with_len a n)) ≡ n * servers
    at a zero = omega arith
    at a (suc n) =
        ap length (flat_map-cons (λ i. map (f i) (range_with_len 0 servers)) a (range_with_len (a + 1) n))
        ∙ omega (
          arith,
          length-append (map (f a) (range_with_len 0 servers)) (flat_map (λ i. map (f i) (range_with_len 0 servers)) (range_with_len (a + 1) n)),
          length-map-range_with_len (f a) 0 servers,
          at (a + 1) n,
          suc-mul n servers,
        )

pub length-public_keys : (group : GroupSpec) (signer : ℕ → SignerId) (n : ℕ) (xs : List (List ℕ)) → xs ≡ map public_key (keys_dealt_to group signer n) → length xs ≡ n
length-public_keys group signer n xs is =
    ap length is ∙ length-map (keys_dealt_to group signer n) public_key ∙ length-map-range_with_len (λ i. key_dealt_to group (signer i)) 0 n
