-- The pad bits that rebuttals carry, from one place to the next.
use Rattle.std.proofs.Common.{◌≡◌, ℕ, ◌+◌, ◌<◌, Bool, List, [], ◌∷◌, ◌++◌, length, get_or, take, refl, ap, ◌∙◌, subst, inl, inr, Option, Some, None}
use Rattle.std.specs.Prelude.{◌⊎◌}
use Rattle.std.proofs.lemmas.Option.{same_Some, none-some}
use Rattle.std.proofs.lemmas.List.Elements.{All-push, All-weaker, Contains-append_left, Contains-push}
use Rattle.dn_wire.specs.declared.ids.SignerId.{SignerId}
use Rattle.dn_record_types.specs.declared.statement.Statement.{Statement}
use Rattle.dn_record_types.specs.declared.statement.Statement.TheVariants as kinds
use Rattle.dn_seal.specs.Said.{SaidView}
use Rattle.dn_trace.specs.Trial.{Trial, Says, IsCarried, round_of}
use Rattle.dn_trace.specs.Evidence.{AreCarried, IsPadIn, HasPadIn}
use Rattle.dn_trace.proofs.Upto.{upto, said_kept, said_new, said_cases}

module _ (trial : Trial) (n : ℕ) (x : SaidView) (lt : n < length trial.given) (at : get_or trial.given n x ≡ x) where
  kept : (who : SignerId) (s : Statement) → IsCarried (upto trial n) who s → IsCarried (upto trial (n + 1)) who s
  kept who s c = record {
    by = c.by;
    r = c.r;
    k = c.k;
    server = c.server;
    seed = c.seed;
    envelope = c.envelope;
    rebuttal = said_kept trial.given n x lt at c.by (kinds.Rebuttal c.r c.k c.server c.seed c.envelope) c.rebuttal;
    signed_r = c.signed_r;
    signed_k = c.signed_k;
    bits = c.bits;
    is = c.is;
    unseals = c.unseals;
  }

  -- pad bits carried so far are carried before, or here
  before_or_here : (opened : Option SaidView) → HasPadIn trial x.statement opened → (who : SignerId) (pad : List Bool)
      → IsCarried (upto trial (n + 1)) who (kinds.PadBits (round_of trial) trial.k pad)
      → IsCarried (upto trial n) who (kinds.PadBits (round_of trial) trial.k pad)
      ⊎ ((said : SaidView) × (opened ≡ Some said) × (said.signer ≡ who) × (said.statement ≡ kinds.PadBits (round_of trial) trial.k pad))
  before_or_here opened has who pad c =
      elim (said_cases trial.given n x lt at c.by (kinds.Rebuttal c.r c.k c.server c.seed c.envelope) c.rebuttal) [
        | inl before ↦ inl record {
          by = c.by;
          r = c.r;
          k = c.k;
          server = c.server;
          seed = c.seed;
          envelope = c.envelope;
          rebuttal = before;
          signed_r = c.signed_r;
          signed_k = c.signed_k;
          bits = c.bits;
          is = c.is;
          unseals = c.unseals;
        }
        | inr here ↦ inr (has who pad record {
          r = c.r;
          k = c.k;
          server = c.server;
          seed = c.seed;
          envelope = c.envelope;
          rebuttal = here.1;
          pad = pad;
          is = refl;
          unseals = c.unseals;
        })
      ]

  pub carried_none : (pads : List SaidView) → HasPadIn trial x.statement None → AreCarried (upto trial n) pads → AreCarried (upto trial (n + 1)) pads
  carried_none pads has old = record {
    each = All-weaker (λ p. IsCarried (upto trial n) p.signer p.statement) (λ p. IsCarried (upto trial (n + 1)) p.signer p.statement) (λ p. kept p.signer p.statement) pads old.each;
    whole = λ who pad c. elim (before_or_here None has who pad c) [
      | inl before ↦ old.whole who pad before
      | inr here ↦ absurd (none-some here.0 here.1)
    ];
  }

  pub carried_some : (pads : List SaidView) (p : SaidView) → IsPadIn trial x.statement p.signer p.statement → HasPadIn trial x.statement (Some p)
      → AreCarried (upto trial n) pads → AreCarried (upto trial (n + 1)) (pads ++ p ∷ [])
  carried_some pads p is has old = record {
    each = All-push (λ q. IsCarried (upto trial (n + 1)) q.signer q.statement) pads p
        (All-weaker (λ q. IsCarried (upto trial n) q.signer q.statement) (λ q. IsCarried (upto trial (n + 1)) q.signer q.statement) (λ q. kept q.signer q.statement) pads old.each)
        record {
          by = x.signer;
          r = is.r;
          k = is.k;
          server = is.server;
          seed = is.seed;
          envelope = is.envelope;
          rebuttal = subst (Says (take (n + 1) trial.given) x.signer) is.rebuttal (said_new trial.given n x lt at);
          signed_r = round_of trial;
          signed_k = trial.k;
          bits = is.pad;
          is = is.is;
          unseals = is.unseals;
        };
    whole = λ who pad c. elim (before_or_here (Some p) has who pad c) [
      | inl before ↦ let says = old.whole who pad before in (says.0, Contains-append_left pads (p ∷ []) says.0 says.1, says.2, says.3)
      | inr here ↦
          let same = same_Some p here.0 here.1 in
          (p, Contains-push pads p, ap (λ y. y.signer) same ∙ here.2, ap (λ y. y.statement) same ∙ here.3)
    ];
  }
