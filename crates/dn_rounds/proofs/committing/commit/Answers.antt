use Rattle.std.proofs.Common.{Bool, subst, sym}
use Rattle.dn_record_types.specs.declared.statement.Statement.{Statement}
use Rattle.dn_server.specs.declared.run.Stage.TheVariants as stages
use Rattle.dn_record_types.specs.declared.body.Listed.{Listed}
use Rattle.std.proofs.Common.{List, false}
use Rattle.dn_rounds.specs.Going.{IsListing, IsCommitDue}
use Rattle.dn_server.specs.Parts.{live}
use Rattle.dn_rounds.specs.Sound.{Stepped, Became}
use Rattle.dn_rounds.proofs.CommitLemmas.{commit_stepped, inventories_fit}
use Rattle.dn_rounds.proofs.committing.commit.Goals as goal

pub sum_for-requires-clause-claimed : goal.sum_for-requires-clause-claimed
sum_for-requires-clause-claimed g c κs within = (c.requires.fit false c.args.listed.items c.requires.listing).0

pub sum_for-requires-clause-seeds : goal.sum_for-requires-clause-seeds
sum_for-requires-clause-seeds g c κs within = (c.requires.fit false c.args.listed.items c.requires.listing).1

pub returns : goal.returns
returns g c =
    let p = c.args.parts.now in
    let new = c.keep_sum.new.parts in
    let before = c.args.acts.now.items in
    let after = c.say_due.new.acts.items in
    let sum = c.in_ok-sum.sum in
    let at : IsCommitDue (live p) sum = record {
      stage = c.requires.stage;
      listing = subst (λ (l : List Listed). IsListing (live p) false l) (sym c.in_ok-sum.ensures.list) c.requires.listing;
      summed = c.in_ok-sum.ensures.sum;
    } in
    let became = subst (λ (s : Statement). Became s stages.Committed p c.say_due.new.parts before after c.in_ok-due.due) c.in_ok-s.ensures.value c.in_ok-due.ensures in
    subst (λ (b : Bool). Stepped p new before after b) (sym c.has_moved.ensures)
    (commit_stepped p c.say_due.new.parts new before after sum (inventories_fit (live p) c.requires.sound.said) at c.in_ok-due.due became c.keep_sum.ensures)
