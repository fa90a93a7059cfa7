use Rattle.std.proofs.Common.{◌≡◌, ◌∙◌, ℕ, sym, subst, arith}
use Rattle.dn_audit.specs.Auditor.{TellsOf, no_strings}
use Rattle.dn_state.specs.Beginning.{seeds_below}
use Rattle.dn_state.proofs.BeginLemmas.{rows_more}
use Rattle.dn_state.proofs.making.auditor_of.Goals as goal

pub loop-i-preserved : goal.loop-i-preserved
loop-i-preserved c =
    let so_far = c.loop-i.invariant in
    let adds = c.in_ok-add_seeds.ensures in
    let spec = c.args.spec.now in
    record {
      signed = adds.signed ∙ so_far.signed;
      are_theirs = adds.are_theirs ∙ so_far.are_theirs;
      tells =
          subst (λ s. TellsOf c.add_seeds.new.auditor (record no_strings { seeds = s })) (sym (rows_more spec c.loop-i.i))
          (adds.tells (record no_strings { seeds = seeds_below spec c.loop-i.i }) so_far.tells);
    }

pub returns : goal.returns
returns c =
    let so_far = c.loop-i.invariant in
    let spec = c.args.spec.now in
    let all : c.loop-i.i ≡ spec.clients = omega arith in
    record {
      signed = so_far.signed;
      are_theirs = so_far.are_theirs;
      tells = subst (λ (n : ℕ). TellsOf c.loop-i.auditor (record no_strings { seeds = seeds_below spec n })) all so_far.tells;
    }
