use Rattle.std.proofs.Common.{◌≡◌, ◌+◌, ◌<◌, true, false, ◌++◌, ◌∷◌, [], cond, length, get_or, take, sym, ap, ◌∙◌, subst, arith}
use Rattle.std.proofs.lemmas.Grind.{common_steps}
use Rattle.std.proofs.lemmas.Bool.{iff_false}
use Rattle.std.proofs.lemmas.List.{take_all}
use Rattle.dn_cert.specs.Signed.{EntryVerifies}
use Rattle.dn_trace.specs.Tables.{AreAdded, TellsAllVerify, submitted_of}
use Rattle.dn_trace.proofs.EnteredLemmas.{added_some, added_none, all_more, all_not}
use Rattle.dn_trace.proofs.entries.enter.Goals as goal
use Rattle.dn_trace.proofs.entries.enter.Goals.{then-not-branch, else-not-branch}

pub loop-entry-preserved : goal.loop-entry-preserved
loop-entry-preserved c =
    let roster = c.args.case.now.roster in
    let v = c.args.v.now in
    let n = c.loop-entry.entry-index in
    let x = c.entry-item.result in
    let old = c.args.submitted.now.items in
    let so_far = c.loop-entry.submitted.items in
    let same = c.get-entry-items.ensures in
    let lt : n < length v.entries = subst (λ l. n < length l) same c.loop-entry-test.true in
    let at : get_or v.entries n x ≡ x = sym (c.entry-item.is ∙ ap (λ l. get_or l n x) same) in
    let verifies = c.in_ok-enter_one.ensures.verifies in
    elim c.if-not-branch.branch [
      | then-not-branch w ↦
          let off : c.in_ok-enter_one.field-0 ≡ false = grind (arith, common_steps) in
          let more : c.enter_one.new.submitted.items ≡ so_far = c.in_ok-enter_one.ensures.adds ∙ ap (λ t. cond t (so_far ++ submitted_of v.prev x ∷ []) so_far) off in
          let bad : ¬ EntryVerifies roster v.r v.prev x = iff_false verifies off in (
            subst (AreAdded roster v.r v.prev (take (n + 1) v.entries) old) (sym more) (added_none roster v.r v.prev v.entries n x lt at old so_far bad c.loop-entry.invariant.0),
            subst (TellsAllVerify roster v.r v.prev (take (n + 1) v.entries)) (sym w.all-is) (all_not roster v.r v.prev v.entries n x lt at bad),
          )
      | else-not-branch w ↦
          let on : c.in_ok-enter_one.field-0 ≡ true = grind (arith, common_steps) in
          let more : c.enter_one.new.submitted.items ≡ so_far ++ submitted_of v.prev x ∷ [] =
          c.in_ok-enter_one.ensures.adds ∙ ap (λ t. cond t (so_far ++ submitted_of v.prev x ∷ []) so_far) on in
          let good = verifies.0 on in (
            subst (AreAdded roster v.r v.prev (take (n + 1) v.entries) old) (sym more) (added_some roster v.r v.prev v.entries n x lt at old so_far good c.loop-entry.invariant.0),
            subst (TellsAllVerify roster v.r v.prev (take (n + 1) v.entries)) (sym w.all-is) (all_more roster v.r v.prev v.entries n x lt at c.loop-entry.all good c.loop-entry.invariant.1),
          )
    ]

pub returns-clause-verify : goal.returns-clause-verify
returns-clause-verify c =
    let v = c.args.v.now in
    let whole : take c.loop-entry.entry-index v.entries ≡ v.entries = take_all c.loop-entry.entry-index v.entries (omega (arith, ap length c.get-entry-items.ensures)) in
    subst (λ l. TellsAllVerify c.args.case.now.roster v.r v.prev l c.loop-entry.all) whole c.loop-entry.invariant.1
