use Rattle.std.proofs.Common.{◌≡◌, ◌++◌, None, length}
use Rattle.dn_notary.specs.Signed.{signed_lines}
use Rattle.dn_notary.proofs.signing.sign_entries.Given as goal

abbrev pub invariant-loop-entry : goal.invariant-loop-entry
invariant-loop-entry l = record {
  written : l.out.items ≡ l.initial.out.items ++ signed_lines l.signer.key l.entries l.entry-index;
  drawn : length l.pass.draws ≡ l.entry-index;
  drawer : l.pass.drawer ≡ l.signer.drawer;
  stands : l.pass.stands ≡ l.signer.drawer.passes;
  seen : l.pass.seen ≡ None;
}
