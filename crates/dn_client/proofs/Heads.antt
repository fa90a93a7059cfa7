-- When the head of a queue moves on.
use Rattle.std.proofs.Common.{◌≡◌, ◌≢◌, ℕ, ◌+◌, ◌<◌, ◌≤◌, ◌↔◌, Bool, true, false, cond, List, [], ◌∷◌, length, take, drop, Some, None, Option, refl, sym, ap, subst, ◌∙◌, arith, length-drop, length-take, inl, inr}
use Rattle.std.specs.Prelude.{All, Contains, IsTrue}
use Rattle.std.proofs.lemmas.List.Elements.{All-contains}
use Rattle.dn_record_types.specs.declared.body.Body.{Body}
use Rattle.dn_wire.specs.declared.ids.Round.{Round}
use Rattle.dn_cert.proofs.ListLemmas.{one_of_number}
use Rattle.dn_client.specs.declared.made.Made.{Made}
use Rattle.dn_client.specs.Plain.{carried_at}
use Rattle.dn_client.specs.Client.{ClientView, IsClient, IsMade}
use Rattle.dn_bits.specs.Bits.{bit}
use Rattle.dn_cert.specs.Chain.{bodies}
use Rattle.dn_client.specs.Holding.{BringsOut, IsBroughtOut, Lists}
use Rattle.dn_client.specs.Accusing.{IsListedMade}
use Rattle.dn_client.specs.Submitting.{IsSlotRange}
use Rattle.dn_client.specs.Answering.{IsOwnBit}

-- what was made for a round is one
pub one_made : (v : ClientView) (m n : Made) → IsClient v → Contains v.made m → Contains v.made n → m.r ≡ n.r → m ≡ n
one_made v m n is a b e = one_of_number (λ (x : Made). x.r.0) v.made is.ascends m n a b (ap (λ r. r.0) e)

pub brought_out : (v : ClientView) (list : List Made) (m : Made) (b : Body) (is_so : Bool) → list ≡ v.made → IsClient v → Contains list m × (m.r ≡ b.r)
    → IsTrue is_so ↔ IsBroughtOut m v.head v.who.me b → IsTrue is_so ↔ BringsOut v b
brought_out v list m b is_so same is found iff =
    let there = subst (λ l. Contains l m) same found.0 in (
      λ t. (m, there, found.1, iff.0 t),
      λ o. iff.1 (subst (λ x. IsBroughtOut x v.head v.who.me b) (one_made v o.0 m is o.1 there (o.2 ∙ sym found.1)) o.3),
    )

pub nothing_made : (v : ClientView) (list : List Made) (b : Body) → list ≡ v.made → All (λ m. m.r.0 ≢ b.r.0) list → IsTrue false ↔ BringsOut v b
nothing_made v list b same none = (
  λ t. absurd cc,
  λ o. absurd (All-contains (λ (m : Made). m.r.0 ≢ b.r.0) list o.0 none (subst (λ l. Contains l o.0) (sym same) o.1) (ap (λ r. r.0) o.2)),
)

some_of : (t : Bool) (p q : ℕ) → cond t (Some p) None ≡ Some q → (t ≡ true) × (p ≡ q)
some_of true p q e = (refl, cc)
some_of false p q e = absurd cc

-- the text that is carried waits at the place
carried_waits : (lengths : List ℕ) (s : ℕ) (waiting : List (List ℕ)) (place q : ℕ) → carried_at lengths s waiting place ≡ Some q → (place ≡ q) × (0 < length waiting)
unfolding carried_at
carried_waits lengths s [] place q e = absurd cc
carried_waits lengths s (text ∷ texts) place q e = ((some_of _ place q e).1, omega arith)

made_carries : (v : ClientView) (m : Made) (q : ℕ) → IsMade v.who v.chain v.queue v.signed m → m.carried ≡ Some q → q + 1 ≤ length v.queue
made_carries v m q is e =
    let waits = carried_waits is.lengths v.who.slot.0 (drop is.place (take is.said v.queue)) is.place q (sym is.content.carried ∙ e) in
    omega (arith, waits.0, waits.1, length-drop is.place (take is.said v.queue), length-take is.said v.queue, is.within)

pub head_moves : (v : ClientView) (b : Body) → IsClient v → BringsOut v b → v.head + 1 ≤ length v.queue
head_moves v b is o = made_carries v o.0 v.head (All-contains (IsMade v.who v.chain v.queue v.signed) v.made o.0 is.made o.1) o.3.carried

-- what was made for a body's round isn't listed, and nothing else was made for it
pub not_listed : (v : ClientView) (list : List Made) (m : Made) (b : Body) (is_so : Bool) → list ≡ v.made → IsClient v → Contains list m × (m.r ≡ b.r)
    → IsTrue is_so ↔ Lists b v.who.me m.digest → is_so ≡ false → (n : Made) → ¬ IsListedMade v b n
not_listed v list m b is_so same is found iff no_way n listed =
    let there = subst (λ l. Contains l m) same found.0 in
    let one = one_made v n m is listed.0 there (listed.1 ∙ sym found.1) in
    let so : is_so ≡ true = iff.1 (subst (λ (x : Made). Lists b v.who.me x.digest) one listed.2) in absurd cc

-- the range of what was made for a round
pub made_range : (v : ClientView) (list : List Made) (m : Made) (r : Round) (range : Option (ℕ × ℕ)) → list ≡ v.made → IsClient v → Contains list m × (m.r ≡ r)
    → m.range ≡ range → IsSlotRange v r range
made_range v list m r (Some range) same is found e = (m, subst (λ l. Contains l m) same found.0, found.1, e)
made_range v list m r None same is found e = λ n there round.
    ap (λ (x : Made). x.range) (one_made v n m is there (subst (λ l. Contains l m) same found.0) (round ∙ sym found.1)) ∙ e

-- the ciphertext that was made for a round
pub made_cipher : (v : ClientView) (list : List Made) (m : Made) (r : Round) (k : ℕ) (own : Bool) → list ≡ v.made → Contains list m × (m.r ≡ r)
    → own ≡ bit m.cipher k → IsOwnBit v r k own
made_cipher v list m r k own same found e = (m.cipher, inl (m, subst (λ l. Contains l m) same found.0, found.1, refl), e)

pub no_cipher : (v : ClientView) (list : List Made) (r : Round) (k : ℕ) → list ≡ v.made → All (λ m. m.r.0 ≢ r.0) list → IsOwnBit v r k false
no_cipher v list r k same none =
    ([], inr ((λ m there round. All-contains (λ (x : Made). x.r.0 ≢ r.0) list m none (subst (λ l. Contains l m) (sym same) there) (ap (λ q. q.0) round)), refl), refl)

-- one body of a round is held
pub one_body : (v : ClientView) (b c : Body) → IsClient v → Contains (bodies v.chain) b → Contains (bodies v.chain) c → b.r ≡ c.r → b ≡ c
one_body v b c is x y e = one_of_number (λ (z : Body). z.r.0) (bodies v.chain) is.chain.ascends b c x y (ap (λ r. r.0) e)
