use Rattle.std.proofs.Common.{◌++◌, ℕ, sym, ap, subst, ◌∙◌}
use Rattle.std.proofs.lemmas.List.{append_assoc}
use Rattle.dn_bits.specs.Bits.{below}
use Rattle.dn_bits.proofs.SumLemmas.{below_more}
use Rattle.dn_state.specs.declared.calling.Call.TheVariants as called
use Rattle.dn_state.specs.Doing.{InTurn}
use Rattle.dn_state.specs.Calling.{CallsServer}
use Rattle.dn_state.proofs.CoreLemmas.{in_turn_push}
use Rattle.dn_state.proofs.calling.tick.Goals as goal

pub loop-j-preserved : goal.loop-j-preserved
loop-j-preserved g c =
    let so_far = c.loop-j.invariant.ticks in
    let one = c.in_ok-call_server.ensures.calls in
    let lines = so_far.0 ++ one.0 in
    let j = c.loop-j.j in
    record {
      roster = c.in_ok-call_server.ensures.roster ∙ c.loop-j.invariant.roster;
      ticks = (
        lines,
        subst (λ js. InTurn (λ (k : ℕ). CallsServer called.Tick record { 0 = k }) js c.args.state.now c.call_server.new.state lines) (sym (below_more j))
            (in_turn_push (λ (k : ℕ). CallsServer called.Tick record { 0 = k }) (below j) j c.args.state.now c.loop-j.state c.call_server.new.state so_far.0 one.0 so_far.1 one.1),
        one.2 ∙ ap (λ xs. xs ++ one.0) so_far.2 ∙ append_assoc c.args.outcomes.now.items so_far.0 one.0,
      );
    }
