-- What a round came to, as lines: V5 is that they stand exactly under the first certificate that is told of with the body of the run's.
use Rattle.std.specs.Prelude.{◌≡◌, ◌∷◌, ◌⊎◌, ◌==◌, ℕ, Bool, true, false, List, [], Option, Some, None, map, flat_map, take, drop, length, slice_index, Contains, if◌then◌else◌}
use Rattle.dn_wire.specs.declared.ids.Round.{Round}
use Rattle.dn_bits.specs.Bits.{below, bytes_of}
use Rattle.dn_record_types.specs.declared.body.Body.{Body}
use Rattle.dn_record_types.specs.declared.body.Listed.{Listed}
use Rattle.dn_layout.specs.Block.{read_of}
use Rattle.dn_layout.specs.Layout.{range_of, start_of}
use Rattle.dn_cert.specs.Chain.{ChainView, bodies, IsLayoutAfter, count_at}
use Rattle.dn_report.specs.declared.pairs.ListedPair.{ListedPair}
use Rattle.dn_report.specs.declared.outcome.Outcome.{Outcome}
use Rattle.dn_report.specs.declared.outcome.Outcome.TheVariants as outcomes

-- who counts in a round, and at which server
abbrev pub pair_of : Listed → ListedPair
pair_of l = record { client = l.client; server = l.server }

abbrev pub listed_line : Body → Outcome
listed_line b = outcomes.Listed b.r (map pair_of b.listed)

-- the line of a block that is read so
abbrev pub block_line : Round → ℕ → Option (ℕ × List ℕ) → Outcome
block_line r slot (Some (next_len, text)) = outcomes.Message r (record { 0 = slot }) text
block_line r slot None = outcomes.Garbled r (record { 0 = slot })

-- the bytes of a slot among those of an output
abbrev pub block_in : List ℕ → List ℕ → ℕ → List ℕ
block_in layout bytes slot = take (slice_index layout slot) (drop (start_of layout slot) bytes)

-- the line of a slot that is open: its place is this one
abbrev pub open_lines : Round → List ℕ → List ℕ → ℕ → Option (ℕ × ℕ) → List Outcome
open_lines r layout bytes slot (Some range) = block_line r slot (read_of (block_in layout bytes slot)) ∷ []
open_lines r layout bytes slot None = []

-- the line of a slot, and none where the slot is closed
abbrev pub slot_lines : Round → List ℕ → List ℕ → ℕ → List Outcome
slot_lines r layout bytes slot = open_lines r layout bytes slot (range_of layout slot)

-- the lines of an output with these bytes: the bytes, and what each open slot says
abbrev pub output_lines_of : Round → List ℕ → List ℕ → List Outcome
output_lines_of r layout bytes = outcomes.Out r bytes ∷ flat_map (slot_lines r layout bytes) (below (length layout))

-- The lines of a round whose body a chain has: who counts; and how many count, and did in the round before, where the round is thin, and else
-- the output.
pub data IsRoundTold (chain : ChainView) (b : Body) (lines : List Outcome) : Type 0 where
  thin : b.thin ≡ true → lines ≡ listed_line b ∷ outcomes.Thin b.r (count_at chain b.r.0) (count_at chain b.prev.0) ∷ [] → IsRoundTold chain b lines
  full : (layout : List ℕ) → b.thin ≡ false → IsLayoutAfter chain b.prev.0 layout
      → lines ≡ listed_line b ∷ output_lines_of b.r layout (bytes_of b.out) → IsRoundTold chain b lines

-- a set of numbers with one more
abbrev pub with_number : ℕ → (ℕ → Bool) → ℕ → Bool
with_number n set q = if n == q then true else set q

-- Where certificates are told of with this body, and the lines of some rounds were told: the lines of its round are told, where they weren't
-- yet, and this is the body that the chain has of it.
pub data TellsRound (chain : ChainView) (old : ℕ → Bool) (b : Body) (new : ℕ → Bool) (lines : List Outcome) : Type 0 where
  tells : old b.r.0 ≡ false → Contains (bodies chain) b → IsRoundTold chain b lines → new ≡ with_number b.r.0 old → TellsRound chain old b new lines
  stays : (old b.r.0 ≡ true) ⊎ (¬ Contains (bodies chain) b) → new ≡ old → lines ≡ [] → TellsRound chain old b new lines
