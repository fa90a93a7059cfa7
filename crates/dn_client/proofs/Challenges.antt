-- What a challenge asks of a client.
use Rattle.std.proofs.Common.{◌≡◌, ◌≢◌, ◌↔◌, ℕ, Bool, true, false, List, subst, refl}
use mathlib.Core.Bool.{beq}
use Rattle.std.specs.Prelude.{Contains, IsTrue}
use Rattle.dn_record_types.specs.declared.body.Body.{Body}
use Rattle.dn_seal.specs.declared.challenge.Challenge.{Challenge}
use Rattle.dn_cert.specs.Chain.{bodies, Holds, IsLayoutAfter}
use Rattle.dn_client.specs.Client.{ClientView, IsClient}
use Rattle.dn_client.specs.Answering.{IsOpened, IsAsked, IsMisshapen, Names}
use Rattle.dn_cert.proofs.ChainLemmas.{has_layout, layout_is_one_lem}

abbrev pub Tells : ClientView → Challenge → Body → Bool → Type 0
Tells v c body is_so = (lengths : List ℕ) → IsLayoutAfter v.chain body.prev.0 lengths → IsTrue is_so ↔ IsOpened v c lengths

abbrev pub IsBodyOf : ClientView → Challenge → Body → Type 0
IsBodyOf v c body = Contains (bodies v.chain) body × (body.r ≡ c.r)

pub tells_on : (v : ClientView) (c : Challenge) (body : Body) (is_so : Bool) (layout : List ℕ) → IsClient v → IsLayoutAfter v.chain body.prev.0 layout
    → IsTrue is_so ↔ IsOpened v c layout → Tells v c body is_so
tells_on v c body is_so layout is after iff lengths there =
    subst (λ l. IsTrue is_so ↔ IsOpened v c l) (layout_is_one_lem v.chain body.prev.0 layout lengths is.chain after there) iff

pub tells_none : (v : ClientView) (c : Challenge) (body : Body) → body.prev.0 ≢ 0 → (Holds v.chain body.prev.0 → ⊥) → Tells v c body false
tells_none v c body z free lengths there = absurd (free (has_layout v.chain body.prev.0 lengths z there))

pub asked : (v : ClientView) (c : Challenge) (body : Body) (is_so : Bool) → IsClient v → IsBodyOf v c body → Names body v.who.me → Tells v c body is_so → is_so ≡ true → IsAsked v c
asked v c body is_so is there named tells so =
    let long = is.chain.long body there.0 in record {
      body = body;
      lengths = long.0;
      held = record { held = there.0; round = there.1; after = long.1 };
      named = named;
      opened = (tells long.0 long.1).0 so;
    }

pub misshapen : (v : ClientView) (c : Challenge) (body : Body) (is_so : Bool) → IsClient v → IsBodyOf v c body → Names body v.who.me → Tells v c body is_so → is_so ≡ false → IsMisshapen v c
misshapen v c body is_so is there named tells so =
    let long = is.chain.long body there.0 in record {
      body = body;
      lengths = long.0;
      held = record { held = there.0; round = there.1; after = long.1 };
      named = named;
      shape = λ o. let yes_so : is_so ≡ true = (tells long.0 long.1).1 o in absurd cc;
    }

pub beq_same : (a b : Bool) → beq a b ≡ true → a ≡ b
beq_same true true e = refl
beq_same false false e = refl
beq_same true false e = absurd cc
beq_same false true e = absurd cc

pub beq_differs : (a b : Bool) → beq a b ≡ false → a ≢ b
beq_differs true true e = absurd cc
beq_differs false false e = absurd cc
beq_differs true false e = λ d. absurd cc
beq_differs false true e = λ d. absurd cc
