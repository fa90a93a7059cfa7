use Rattle.std.proofs.Common.{◌≡◌, ◌*◌, ◌∙◌, arith}
use Rattle.dn_lms.specs.Key.{Key, leaves_of}
use Rattle.dn_lms_definitions.proofs.Laws.{sizes}
use Rattle.dn_lms.proofs.TreeLemmas.{leaves_more}
use Rattle.dn_lms.proofs.tree.fill_leaves.Goals as goal

pub overflow_add-count : goal.overflow_add-count
overflow_add-count c = let s = sizes c.args.lms c.requires.known in omega arith

pub fill_four-requires-clause-few : goal.fill_four-requires-clause-few
fill_four-requires-clause-few c = let s = sizes c.args.lms c.requires.known in omega arith

pub fours-preserved : goal.fours-preserved
fours-preserved c =
    let key : Key = record { lms = c.args.lms; ots = c.args.params.code; id = c.args.id.now; seed = c.args.seed.now } in
    leaves_more key c.fours.tree c.fill_four.new.tree c.ots_public_four-keys.result c.fours.four c.ots_public_four-keys.ensures
    (rw c.leaves_of-count.ensures at c.fill_four.ensures.written) (rw c.leaves_of-count.ensures at c.fill_four.ensures.kept) c.fours.invariant

pub returns : goal.returns
returns c =
    let s = sizes c.args.lms c.requires.known in
    let all : 4 * c.fours.four ≡ leaves_of c.args.lms = omega arith in
    record {
      size = c.fours.auto.tree ∙ c.requires.size;
      leaves = λ q below. c.fours.invariant q (omega arith);
    }
