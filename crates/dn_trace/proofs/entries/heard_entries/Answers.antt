use Rattle.std.proofs.Common.{◌≡◌, ◌+◌, ◌<◌, true, false, set, length, get_or, sym, ap, ◌∙◌, subst, arith}
use Rattle.std.proofs.lemmas.Grind.{common_steps}
use Rattle.dn_record_types.specs.declared.statement.Statement.TheVariants as kinds
use Rattle.dn_seal.specs.Dealt.{server}
use Rattle.dn_trace.specs.Trial.{round_of}
use Rattle.dn_trace.specs.Tables.{AreEntries}
use Rattle.dn_trace.proofs.Upto.{upto, upto_all}
use Rattle.dn_trace.proofs.EnteredLemmas.{entries_skip, entries_all, entries_other, entries_false, same_numbers, other_numbers}
use Rattle.dn_trace.proofs.entries.heard_entries.Goals as goal
use Rattle.dn_trace.proofs.entries.heard_entries.Goals.{then-ne-via-then-ne, then-ne-via-else-ne+in_ok-enter+then-branch, in-Server, in_default-signer}

pub loop-said-preserved-in_default : goal.loop-said-preserved-in_default
loop-said-preserved-in_default c =
    let trial = c.args.case.now in
    let x = c.said-item.result in
    let n = c.loop-said.said-index in
    let given = c.given-said-items.ensures.value in
    let lt : n < length trial.given = subst (λ l. n < length l) given c.loop-said-test.true in
    let at : get_or trial.given n x ≡ x = sym (c.said-item.is ∙ ap (λ l. get_or l n x) given) in
    entries_skip trial n x lt at c.loop-said.submitted.items c.loop-said.is_false.items
    (λ held is round. c.in_default.not-Inventory held (c.statement.ensures.value ∙ is)) c.loop-said.invariant

pub loop-said-preserved-then-ne : goal.loop-said-preserved-then-ne
loop-said-preserved-then-ne c =
    let trial = c.args.case.now in
    let x = c.said-item.result in
    let n = c.loop-said.said-index in
    let given = c.given-said-items.ensures.value in
    let lt : n < length trial.given = subst (λ l. n < length l) given c.loop-said-test.true in
    let at : get_or trial.given n x ≡ x = sym (c.said-item.is ∙ ap (λ l. get_or l n x) given) in
    let v = c.in-Inventory.v in
    let is : x.statement ≡ kinds.Inventory v = sym c.statement.ensures.value ∙ c.in-Inventory.is in
    let so_far = c.loop-said.submitted.items in
    let flags = c.loop-said.is_false.items in
    elim c.then-ne.branch [
      | then-ne-via-then-ne w ↦
          let same : c.then-ne.submitted.items ≡ so_far = grind (arith, common_steps) in
          subst (λ l. AreEntries (upto trial (n + 1)) l flags) (sym same) (entries_skip trial n x lt at so_far flags
          (λ held at_x round. let both : kinds.Inventory v ≡ kinds.Inventory held = sym is ∙ at_x in let same_r : v.r ≡ held.r = cc in
          other_numbers c.ne.result v.r.0 c.round.result.0 c.ne.ensures w.if-ne.true (ap (λ r. r.0) (same_r ∙ round ∙ sym c.round.ensures))) c.loop-said.invariant)
      | then-ne-via-else-ne+in_ok-enter+then-branch w ↦
          let same : c.then-ne.submitted.items ≡ w.enter.new.submitted.items = grind (arith, common_steps) in
          let number = same_numbers c.ne.result v.r.0 c.round.result.0 c.ne.ensures w.if-ne.false in
          let round : v.r ≡ round_of trial = (λ t. record { 0 = number t }) ∙ c.round.ensures in
          let all : w.in_ok-enter.field-0 ≡ true = grind (arith, common_steps) in
          subst (λ l. AreEntries (upto trial (n + 1)) l flags) (sym same)
          (entries_all trial n x lt at v is round so_far w.enter.new.submitted.items flags w.in_ok-enter.ensures.added c.loop-said.invariant (w.in_ok-enter.ensures.verify.all all))
    ]

pub loop-said-preserved : goal.loop-said-preserved
loop-said-preserved c =
    let trial = c.args.case.now in
    let x = c.said-item.result in
    let n = c.loop-said.said-index in
    let given = c.given-said-items.ensures.value in
    let lt : n < length trial.given = subst (λ l. n < length l) given c.loop-said-test.true in
    let at : get_or trial.given n x ≡ x = sym (c.said-item.is ∙ ap (λ l. get_or l n x) given) in
    let v = c.in-Inventory.v in
    let is : x.statement ≡ kinds.Inventory v = sym c.statement.ensures.value ∙ c.in-Inventory.is in
    let so_far = c.loop-said.submitted.items in
    let flags = c.loop-said.is_false.items in
    let more = c.enter.new.submitted.items in
    let number = same_numbers c.ne.result v.r.0 c.round.result.0 c.ne.ensures c.if-ne.false in
    let round : v.r ≡ round_of trial = (λ t. record { 0 = number t }) ∙ c.round.ensures in
    let bad : c.in_ok-enter.field-0 ≡ false = grind (arith, common_steps) in
    let entry = c.in_ok-enter.ensures.verify.one bad in
    elim c.match-signer.branch [
      | in-Server w ↦
          let j = w.in-Server.j.0 in
          let by : x.signer ≡ server j = sym c.signer.ensures.value ∙ w.in-Server.is in
          let marked : c.match-signer.is_false.items ≡ set flags j true = ap (λ v. v.items) w.is_false-is ∙ w.mark.ensures in
          subst (AreEntries (upto trial (n + 1)) more) (sym marked)
          (entries_false trial n x lt at v is round so_far more flags c.in_ok-enter.ensures.added c.loop-said.invariant j by entry.0 entry.1 entry.2)
      | in_default-signer w ↦
          let same : c.match-signer.is_false.items ≡ flags = grind (arith, common_steps) in
          subst (AreEntries (upto trial (n + 1)) more) (sym same)
          (entries_other trial n x lt at v is round so_far more flags c.in_ok-enter.ensures.added c.loop-said.invariant (λ j by. w.in_default-signer.not-Server record { 0 = j } (c.signer.ensures.value ∙ by)))
    ]

pub returns : goal.returns
returns c =
    let trial = c.args.case.now in
    let whole : c.loop-said.said-index ≡ length trial.given = omega (arith, ap length c.given-said-items.ensures.value) in
    subst (λ t. AreEntries t c.loop-said.submitted.items c.loop-said.is_false.items) (upto_all trial c.loop-said.said-index whole) c.loop-said.invariant
