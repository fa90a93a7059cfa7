-- The lines of what a round came to put nothing, and tell nothing of servers.
use Rattle.std.proofs.Common.{ℕ, List, [], ◌∷◌, length, refl, sym, subst, inl, inr}
use Rattle.std.specs.Prelude.{Contains, Option, Some, None, flat_map}
use Rattle.std.proofs.lemmas.List.Elements.{Contains-append_cases}
use Rattle.dn_wire.specs.declared.ids.Round.{Round}
use Rattle.dn_bits.specs.Bits.{below, bytes_of}
use Rattle.dn_record_types.specs.declared.body.Body.{Body}
use Rattle.dn_layout.specs.Layout.{range_of}
use Rattle.dn_cert.specs.Chain.{ChainView, count_at}
use Rattle.dn_cert.proofs.Orders.{nothing, first_or_later}
use Rattle.dn_report.specs.declared.outcome.Outcome.{Outcome}
use Rattle.dn_report.specs.declared.outcome.Outcome.TheVariants as outcomes
use Rattle.dn_state.specs.Parts.{PartsView}
use Rattle.dn_state.specs.Telling.{IsRoundTold, TellsRound, listed_line, block_line, open_lines, slot_lines, output_lines_of, with_told}
use Rattle.dn_state.specs.Telling.IsRoundTold.{thin, full}
use Rattle.dn_state.specs.Telling.TellsRound.{tells, stays}
use Rattle.dn_headline.specs.Group.{GroupView}
use Rattle.dn_headline.specs.Log.{Log}
use Rattle.dn_steps.specs.Fitting.{FitsLog}
use Rattle.dn_steps.proofs.Places.{only}
use Rattle.dn_steps.proofs.Taking.{IsPlain}

plain_listed : (b : Body) → IsPlain (listed_line b)
plain_listed b = record { quiet = refl; unput = refl; taken = refl; blames = refl }

plain_block : (r : Round) (slot : ℕ) (read : Option (ℕ × List ℕ)) → IsPlain (block_line r slot read)
plain_block r slot (Some block) = record { quiet = refl; unput = refl; taken = refl; blames = refl }
plain_block r slot None = record { quiet = refl; unput = refl; taken = refl; blames = refl }

plain_open : (r : Round) (layout bytes : List ℕ) (slot : ℕ) (range : Option (ℕ × ℕ)) (o : Outcome) → Contains (open_lines r layout bytes slot range) o → IsPlain o
plain_open r layout bytes slot (Some range) o h = subst IsPlain (only _ o h) (plain_block r slot _)
plain_open r layout bytes slot None o h = absurd (nothing o h)

plain_each : (f : ℕ → List Outcome) (xs : List ℕ) → ((x : ℕ) (o : Outcome) → Contains (f x) o → IsPlain o) → (o : Outcome) → Contains (flat_map f xs) o → IsPlain o
plain_each f [] each o h = absurd (nothing o h)
plain_each f (x ∷ xs) each o h = elim (Contains-append_cases (f x) (flat_map f xs) o h) [ inl first ↦ each x o first | inr behind ↦ plain_each f xs each o behind ]

plain_output : (r : Round) (layout bytes : List ℕ) (n : ℕ) (o : Outcome) → Contains (outcomes.Out r bytes ∷ flat_map (slot_lines r layout bytes) (below n)) o → IsPlain o
plain_output r layout bytes n o h =
    elim (first_or_later (outcomes.Out r bytes) (flat_map (slot_lines r layout bytes) (below n)) o h) [
      | inl is ↦ subst IsPlain is (record { quiet = refl; unput = refl; taken = refl; blames = refl })
      | inr behind ↦ plain_each (slot_lines r layout bytes) (below n) (λ slot x there. plain_open r layout bytes slot (range_of layout slot) x there) o behind
    ]

round_plain : (chain : ChainView) (b : Body) (lines : List Outcome) → IsRoundTold chain b lines → (o : Outcome) → Contains lines o → IsPlain o
round_plain chain b lines (thin is told) o h =
    let counts = outcomes.Thin b.r (count_at chain b.r.0) (count_at chain b.prev.0) in
    elim (first_or_later (listed_line b) (counts ∷ []) o (subst (λ (os : List Outcome). Contains os o) told h)) [
      | inl same ↦ subst IsPlain same (plain_listed b)
      | inr behind ↦ subst IsPlain (only counts o behind) (record { quiet = refl; unput = refl; taken = refl; blames = refl })
    ]
round_plain chain b lines (full layout is after told) o h =
    elim (first_or_later (listed_line b) (output_lines_of b.r layout (bytes_of b.out)) o (subst (λ (os : List Outcome). Contains os o) told h)) [
      | inl same ↦ subst IsPlain same (plain_listed b)
      | inr behind ↦ plain_output b.r layout (bytes_of b.out) (length layout) o behind
    ]

pub told_plain : (old : PartsView) (b : Body) (new : PartsView) (lines : List Outcome) → TellsRound old b new lines → (o : Outcome) → Contains lines o → IsPlain o
told_plain old b new lines (tells first there told is) o h = round_plain old.chain b lines told o h
told_plain old b new lines (stays why is none) o h = absurd (nothing o (subst (λ (os : List Outcome). Contains os o) none h))

-- only the rounds that were told are others
pub told_keeps : (P : PartsView → Type 0) (old : PartsView) (b : Body) (new : PartsView) (lines : List Outcome) → TellsRound old b new lines → P old
    → P (with_told b.r.0 old) → P new
told_keeps P old b new lines (tells first there told is) p q = subst P (sym is) q
told_keeps P old b new lines (stays why is none) p q = subst P (sym is) p

pub told_fits : (g : GroupView) (l : Log) (old : PartsView) (r : ℕ) → FitsLog g l old → FitsLog g l (with_told r old)
told_fits g l old r fits = record { payloads = fits.payloads; flight = fits.flight; chain = fits.chain; heard = fits.heard }
