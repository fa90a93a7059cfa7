use Rattle.std.proofs.Common.{◌++◌, take, get_or, sym, ap, subst, ◌∙◌, arith}
use Rattle.std.proofs.lemmas.List.{append_assoc, take_more}
use Rattle.dn_server.specs.declared.act.Act.{Act}
use Rattle.dn_state.specs.Doing.{InTurn}
use Rattle.dn_state.specs.Acting.{Acts}
use Rattle.dn_state.proofs.CoreLemmas.{in_turn_push}
use Rattle.dn_state.proofs.acting.act_each.Goals as goal

pub loop-each-preserved : goal.loop-each-preserved
loop-each-preserved c =
    let so_far = c.loop-each.invariant.acts in
    let one = c.in_ok-act.ensures.acts in
    let lines = so_far.0 ++ one.0 in
    let acts = c.args.acts.now in
    let i = c.loop-each.each-index in
    let item = c.each-item.result in
    record {
      roster = c.in_ok-act.ensures.roster ∙ c.loop-each.invariant.roster;
      acts = (
        lines,
        subst (λ xs. InTurn (Acts c.args.server c.args.last) xs c.args.state.now c.act.new.state lines) (sym (take_more acts i item (omega arith)))
            (in_turn_push (Acts c.args.server c.args.last) (take i acts) (get_or acts i item) c.args.state.now c.loop-each.state c.act.new.state so_far.0 one.0 so_far.1
            (subst (λ (a : Act). Acts c.args.server c.args.last a c.loop-each.state c.act.new.state one.0) c.each-item.is one.1)),
        one.2 ∙ ap (λ xs. xs ++ one.0) so_far.2 ∙ append_assoc c.args.outcomes.now.items so_far.0 one.0,
      );
    }
