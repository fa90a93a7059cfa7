use Rattle.std.proofs.Common.{ap, sym, subst, ◌∙◌}
use Rattle.dn_board.specs.Reads.{AreReads, last_place}
use Rattle.dn_board.proofs.Places.{grow}
use Rattle.dn_board.proofs.board.BoardLog.add.Goals as goal

pub invariant_of-self : goal.invariant_of-self
invariant_of-self c =
    let fits = c.requires.fits ∙ ap (λ b. last_place c.args.number b.posts) (sym c.self.view_is) in
    subst AreReads (sym c.push_reserved.ensures.items) (grow c.self.inside.posts.items (c.args.number, c.args.entry) c.self.invariant fits)
