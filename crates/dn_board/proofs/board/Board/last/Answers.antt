use Rattle.std.proofs.Common.{arith, ◌≡◌, ◌+◌, ◌<◌, ◌∙◌, length, ap, sym, cond, take, Bool, Some, slice_get, eq-eqb, ne_eqb}
use Rattle.std.proofs.lemmas.Option.{slice_get-get_or}
use Rattle.dn_board.specs.Reads.{last_place}
use Rattle.dn_board.proofs.Places.{last_more}
use Rattle.dn_board.proofs.board.Board.last.Goals.{then-by-number, else-by-number}
use Rattle.dn_board.proofs.board.Board.last.Goals as goal

pub loop-i-preserved : goal.loop-i-preserved
loop-i-preserved c =
    let items = c.self.inside.posts.items in
    let inside : c.loop-i.i < length items = omega arith in
    let at : slice_get items c.loop-i.i ≡ Some c.index.result.now = slice_get-get_or items c.loop-i.i c.index.result.now inside ∙ ap Some (sym c.index.ensures) in
    let more = last_more c.args.number items c.loop-i.i c.index.result.now at in
    elim c.if-by-number.branch [
      | then-by-number w ↦ let h = w.if-by-number in w.last-is ∙ sym (more ∙ ap (λ (b : Bool). cond b (c.loop-i.i + 1) (last_place c.args.number (take c.loop-i.i items))) (eq-eqb _ _ h.true))
      | else-by-number w ↦ let h = w.if-by-number in w.last-is ∙ c.loop-i.invariant ∙ sym (more ∙ ap (λ (b : Bool). cond b (c.loop-i.i + 1) (last_place c.args.number (take c.loop-i.i items))) (ne_eqb _ _ h.false))
    ]
