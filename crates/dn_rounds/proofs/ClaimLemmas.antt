-- The ciphertexts that a list gives to a server.
use Rattle.std.proofs.Common.{◌≡◌, ℕ, zero, suc, ◌+◌, ◌<◌, Bool, true, false, List, [], ◌∷◌, ◌++◌, length, get_or, take, cond, Some, refl, sym, ap, ◌∙◌, arith}
use Rattle.std.specs.Prelude.{All, filter, ◌==◌}
use Rattle.std.proofs.lemmas.Bool.{eq-eqb}
use Rattle.std.proofs.lemmas.List.Elements.{All-head, All-tail, filter_more}
use Rattle.dn_bits.specs.Bits.{bytes_of}
use Rattle.dn_hash.specs.Digests.{cipher_digest_of}
use Rattle.dn_record_types.specs.declared.body.Listed.{Listed}
use Rattle.dn_record_types.specs.declared.shown.ShownCipher.{ShownCipher}
use Rattle.dn_cert.specs.Trim.{given_to}
use Rattle.dn_server.specs.declared.claims.Claim.{Claim}
use Rattle.dn_server.specs.declared.run.Run.{Run}
use Rattle.dn_server.specs.Justified.{Course, IsOfRow, AreOfRows, AreIncluded, submission_of}
use Rattle.dn_server.specs.Server.{WasIncluded, course_of}
use Rattle.dn_rounds.specs.Sound.{IsClaimed, AreClaimed}

module _ {X : Type 0} (P : X → Type 0) (p : X → Bool) where
  one_so : (b : Bool) (x : X) (xs ys : List X) → b ≡ true → All P (cond b (x ∷ xs) ys) → P x
  one_so true x xs ys e h = All-head P x xs h
  one_so false x xs ys e h = absurd (never e)
    where
      never : false ≡ true → ⊥
      never g = cc

  rest_so : (b : Bool) (x : X) (xs : List X) → All P (cond b (x ∷ xs) xs) → All P xs
  rest_so true x xs h = All-tail P x xs h
  rest_so false x xs h = h

  -- what holds of those that pass holds of each that passes
  pub All-from_filter : (xs : List X) (i : ℕ) (d : X) → i < length xs → All P (filter p xs) → p (get_or xs i d) ≡ true → P (get_or xs i d)
  All-from_filter [] i d lt h e = absurd (omega arith)
  All-from_filter (x ∷ xs) zero d lt h e = one_so (p x) x (filter p xs) (filter p xs) e h
  All-from_filter (x ∷ xs) (suc i) d lt h e = All-from_filter xs i d (omega arith) (rest_so (p x) x (filter p xs) h) e

pub claimed_at : (run : Run) (listed : List Listed) (own i : ℕ) (d : Listed) → AreClaimed run (given_to listed own) → i < length listed
    → (get_or listed i d).server.0 ≡ own → IsClaimed run (get_or listed i d)
claimed_at run listed own i d h lt e = All-from_filter (IsClaimed run) (λ (l : Listed). l.server.0 == own) listed i d lt h (eq-eqb (get_or listed i d).server.0 own e)

pub rows-push : (course : Course) (rows : List Listed) (own : List ShownCipher) (l : Listed) (s : ShownCipher) → AreOfRows course rows own → IsOfRow course l s
    → AreOfRows course (rows ++ l ∷ []) (own ++ s ∷ [])
rows-push course [] [] l s h is = (is, tt)
rows-push course [] (x ∷ xs) l s h is = absurd h
rows-push course (r ∷ rs) [] l s h is = absurd h
rows-push course (r ∷ rs) (x ∷ xs) l s h is = (h.0, rows-push course rs xs l s h.1 is)

pub told-push : (run : Run) (rows : List Listed) (own : List ShownCipher) (l : Listed) (s : ShownCipher) → AreOfRows (course_of run) rows own
    → AreIncluded (WasIncluded run) (course_of run) rows own → WasIncluded run (submission_of (course_of run) l) s.cipher
    → AreIncluded (WasIncluded run) (course_of run) (rows ++ l ∷ []) (own ++ s ∷ [])
told-push run [] [] l s h t is = (is, tt)
told-push run [] (x ∷ xs) l s h t is = absurd h
told-push run (r ∷ rs) [] l s h t is = absurd h
told-push run (r ∷ rs) (x ∷ xs) l s h t is = (t.0, told-push run rs xs l s h.1 t.1 is)

append_nil : (xs : List Listed) → xs ++ [] ≡ xs
append_nil [] = refl
append_nil (x ∷ xs) = ap (λ l. x ∷ l) (append_nil xs)

-- one row more, which is the server's or isn't
pub given-take : (listed : List Listed) (own i : ℕ) (d : Listed) → i < length listed → ((get_or listed i d).server.0 == own) ≡ true
    → given_to (take (i + 1) listed) own ≡ given_to (take i listed) own ++ get_or listed i d ∷ []
given-take listed own i d lt e =
    filter_more (λ (l : Listed). l.server.0 == own) listed i d lt
    ∙ ap (λ b. given_to (take i listed) own ++ cond b (get_or listed i d ∷ []) []) e

pub given-skip : (listed : List Listed) (own i : ℕ) (d : Listed) → i < length listed → ((get_or listed i d).server.0 == own) ≡ false
    → given_to (take (i + 1) listed) own ≡ given_to (take i listed) own
given-skip listed own i d lt e =
    filter_more (λ (l : Listed). l.server.0 == own) listed i d lt
    ∙ ap (λ b. given_to (take i listed) own ++ cond b (get_or listed i d ∷ []) []) e ∙ append_nil (given_to (take i listed) own)

claim_is : (a b : Claim) → Some (Some a) ≡ Some (Some b) → a ≡ b
claim_is a b e = cc

-- the ciphertext of the claim is the row's
module _ (run : Run) (l : Listed) (s : ShownCipher) (claim : Claim) (is : IsClaimed run l) (found : Some (Some is.claim) ≡ Some (Some claim))
    (client : s.client ≡ l.client) (cipher : s.cipher ≡ claim.cipher) where
  same : s.cipher ≡ is.claim.cipher
  same = cipher ∙ ap (λ (c : Claim). c.cipher) (sym (claim_is is.claim claim found))

  pub claim_row : IsOfRow (course_of run) l s
  claim_row = record {
    client = client;
    long = ap length same ∙ is.long;
    digest = sym is.digest ∙ is.fits ∙ ap (λ (c : List Bool). cipher_digest_of run.r.0 l.client.0 (bytes_of c)) (sym same);
  }
