use Rattle.std.proofs.Common.{◌+◌, ◌++◌, ◌∙◌, length, ap}
use Rattle.dn_notary.specs.Signed.{line, sign_text, signed}
use Rattle.dn_notary.proofs.SigningLemmas.{none_yet, one_more}
use Rattle.dn_notary.proofs.signing.sign_entries.Goals as goal

pub loop-entry-init : goal.loop-entry-init
loop-entry-init c = record {
  written = none_yet c.args.signer.now.key c.args.entries.now c.args.out.now.items;
  drawn = c.requires.fresh;
  drawer = c.requires.drawer;
  stands = c.requires.alone;
  seen = c.requires.open;
}

pub loop-entry-preserved : goal.loop-entry-preserved
loop-entry-preserved c = record {
  written = one_more c.args.signer.now.key c.args.entries.now c.args.out.now.items c.loop-entry.out.items c.sign_entry.new.out.items c.entry-item.result c.loop-entry.entry-index _
      c.loop-entry-test.true c.entry-item.is c.loop-entry.invariant.drawn c.loop-entry.invariant.written (c.in_ok-sign_entry.ensures.written ∙ ap (λ e. c.loop-entry.out.items ++ line (sign_text (signed c.args.signer.now.key (length c.loop-entry.pass.draws) e))) c.get.ensures);
  drawn = c.in_ok-sign_entry.ensures.drawn ∙ ap (λ n. n + 1) c.loop-entry.invariant.drawn;
  drawer = c.in_ok-sign_entry.ensures.pass.0 ∙ c.loop-entry.invariant.drawer;
  stands = c.in_ok-sign_entry.ensures.pass.1 ∙ c.loop-entry.invariant.stands;
  seen = c.in_ok-sign_entry.ensures.pass.2;
}
