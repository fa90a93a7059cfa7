use Rattle.std.proofs.Common.{◌≡◌, ◌+◌, ◌<◌, ℕ, Bool, false, [], length, get_or, cond, take, map, sym, ap, ◌∙◌, subst, arith}
use Rattle.std.specs.Prelude.{◌==◌, slice_index_or}
use Rattle.std.specs.List.{list_any}
use Rattle.std.proofs.lemmas.List.Elements.{All-get_or}
use Rattle.std.proofs.lemmas.List.Folds.{list_any_more}
use Rattle.std.proofs.lemmas.List.FromFn.{length-map-range_with_len}
use Rattle.dn_bits.specs.Bits.{bit, below}
use Rattle.dn_pads.specs.Pads.{keystream_bit}
use Rattle.dn_record_types.specs.declared.body.Listed.{Listed}
use Rattle.dn_openings.proofs.PadLemmas.{set_none, set_more}
use Rattle.dn_openings.proofs.pads.opened_bits.Goals as goal

abbrev the_row : Listed
the_row = record { client = record { 0 = 0 }; server = record { 0 = 0 }; digest = [] }

pub loop-row-init : goal.loop-row-init
loop-row-init c = c.in_ok-bits.ensures ∙ set_none c.args.clients (λ i. keystream_bit (slice_index_or c.args.seeds.now i []) c.args.body.now.r.0 c.args.k)

pub set_bit-requires : goal.set_bit-requires
set_bit-requires c =
    let rows = c.get-row-items.result.now in
    let f : ℕ → Bool = λ i. keystream_bit (slice_index_or c.args.seeds.now i []) c.args.body.now.r.0 c.args.k in
    let long : length c.loop-row.bits ≡ c.args.clients =
    ap length c.loop-row.invariant
    ∙ length-map-range_with_len (λ i. cond (list_any (λ x. x.client.0 == i) (take c.loop-row.row-index c.args.body.now.listed)) (f i) false) 0 c.args.clients in
    let within : (get_or rows c.loop-row.row-index the_row).client.0 < c.args.clients =
    All-get_or (λ (l : Listed). l.client.0 < c.args.clients) rows c.loop-row.row-index the_row c.loop-row-test.true
    (subst (λ ls. (k : ℕ) (d : Listed) → k < length ls → (get_or ls k d).client.0 < c.args.clients) (sym c.get-row-items.ensures) c.requires.listed) in
    omega arith

pub loop-row-preserved : goal.loop-row-preserved
loop-row-preserved c =
    let rows = c.args.body.now.listed in
    let i = c.loop-row.row-index in
    let who = (get_or rows i the_row).client.0 in
    let f : ℕ → Bool = λ j. keystream_bit (slice_index_or c.args.seeds.now j []) c.args.body.now.r.0 c.args.k in
    let lt : i < length rows = subst (λ l. i < length l) c.get-row-items.ensures c.loop-row-test.true in
    let here : get_or c.get-row-items.result.now i the_row ≡ get_or rows i the_row = ap (λ l. get_or l i the_row) c.get-row-items.ensures in
    let new : c.set_bit.new.bits ≡ map (λ j. cond (j == who) c.pad_bit.result (bit c.loop-row.bits j)) (below (length c.loop-row.bits)) =
    c.set_bit.ensures ∙ ap (λ (l : Listed). map (λ j. cond (j == l.client.0) c.pad_bit.result (bit c.loop-row.bits j)) (below (length c.loop-row.bits))) here in
    let fits : c.pad_bit.result ≡ f who = c.pad_bit.ensures ∙ ap (λ (l : Listed). f l.client.0) here in
    set_more c.args.clients (λ j. list_any (λ x. x.client.0 == j) (take i rows)) (λ j. list_any (λ x. x.client.0 == j) (take (i + 1) rows)) f who
    c.pad_bit.result c.loop-row.bits c.set_bit.new.bits c.loop-row.invariant new fits
    (λ j. list_any_more (λ x. x.client.0 == j) rows i the_row lt)
