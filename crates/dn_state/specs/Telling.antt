-- What a round came to, as lines.
use Rattle.std.specs.Prelude.{◌≡◌, ◌∷◌, ◌⊎◌, ℕ, true, false, List, [], Option, Some, None, map, flat_map, take, drop, length, slice_index, Contains}
use Rattle.std.specs.Ordering.{nat_cmp}
use Rattle.std.specs.BTreeSet.{insert_key}
use Rattle.dn_wire.specs.declared.ids.Round.{Round}
use Rattle.dn_bits.specs.Bits.{below, bytes_of}
use Rattle.dn_record_types.specs.declared.body.Body.{Body}
use Rattle.dn_record_types.specs.declared.body.Listed.{Listed}
use Rattle.dn_layout.specs.Block.{read_of}
use Rattle.dn_layout.specs.Layout.{range_of, start_of}
use Rattle.dn_cert.specs.Chain.{ChainView, bodies, IsLayoutAfter, count_at}
use Rattle.dn_report.specs.declared.pairs.ListedPair.{ListedPair}
use Rattle.dn_report.specs.declared.outcome.Outcome.{Outcome}
use Rattle.dn_report.specs.declared.outcome.Outcome.TheVariants as outcomes
use Rattle.dn_state.specs.Parts.{PartsView, has}

-- who counts in a round, and at which server
abbrev pub pair_of : Listed → ListedPair
pair_of l = record { client = l.client; server = l.server }

abbrev pub listed_line : Body → Outcome
listed_line b = outcomes.Listed b.r (map pair_of b.listed)

-- the line of a block that is read so
abbrev pub block_line : Round → ℕ → Option (ℕ × List ℕ) → Outcome
block_line r slot (Some (next_len, text)) = outcomes.Message r (record { 0 = slot }) text
block_line r slot None = outcomes.Garbled r (record { 0 = slot })

-- the bytes of a slot among those of an output
abbrev pub block_in : List ℕ → List ℕ → ℕ → List ℕ
block_in layout bytes slot = take (slice_index layout slot) (drop (start_of layout slot) bytes)

-- the line of a slot that is open: its place is this one
abbrev pub open_lines : Round → List ℕ → List ℕ → ℕ → Option (ℕ × ℕ) → List Outcome
open_lines r layout bytes slot (Some range) = block_line r slot (read_of (block_in layout bytes slot)) ∷ []
open_lines r layout bytes slot None = []

-- the line of a slot, and none where the slot is closed
abbrev pub slot_lines : Round → List ℕ → List ℕ → ℕ → List Outcome
slot_lines r layout bytes slot = open_lines r layout bytes slot (range_of layout slot)

-- the lines of an output with these bytes: the bytes, and what each open slot says
abbrev pub output_lines_of : Round → List ℕ → List ℕ → List Outcome
output_lines_of r layout bytes = outcomes.Out r bytes ∷ flat_map (slot_lines r layout bytes) (below (length layout))

-- The lines of a round whose body a chain has: who counts; and how many count, and did in the round before, where the round is thin, and else
-- the output.
pub data IsRoundTold (chain : ChainView) (b : Body) (lines : List Outcome) : Type 0 where
  thin : b.thin ≡ true → lines ≡ listed_line b ∷ outcomes.Thin b.r (count_at chain b.r.0) (count_at chain b.prev.0) ∷ [] → IsRoundTold chain b lines
  full : (layout : List ℕ) → b.thin ≡ false → IsLayoutAfter chain b.prev.0 layout
      → lines ≡ listed_line b ∷ output_lines_of b.r layout (bytes_of b.out) → IsRoundTold chain b lines

-- the round was told
abbrev pub WasRoundTold : PartsView → ℕ → Type 0
WasRoundTold parts r = has parts.told r ≡ true

-- the world, in which this round was told too
abbrev pub with_told : ℕ → PartsView → PartsView
with_told r parts = record parts { told = insert_key nat_cmp parts.told r }

-- A round is told with its body: where it wasn't told before, and this is the body that the run's chain has of it.
pub data TellsRound (old : PartsView) (b : Body) (new : PartsView) (lines : List Outcome) : Type 0 where
  tells : (¬ WasRoundTold old b.r.0) → Contains (bodies old.chain) b → IsRoundTold old.chain b lines → new ≡ with_told b.r.0 old → TellsRound old b new lines
  stays : WasRoundTold old b.r.0 ⊎ (¬ Contains (bodies old.chain) b) → new ≡ old → lines ≡ [] → TellsRound old b new lines
