use Rattle.std.proofs.Common.{rules, ◌∙◌, ℕ, List, Option, length, ap, subst, inr}
use Rattle.std.specs.Prelude.{MatchOption}
use Rattle.dn_record_types.specs.declared.inventory.Entry.{Entry}
use Rattle.dn_server.specs.Parts.{live}
use Rattle.dn_exchange.specs.Hearing.{number_bytes, IsFirstFalse, AllVerify}
use Rattle.dn_exchange.proofs.hearing.inventory_fault.Goals as goal

pub returns : goal.returns
returns c =
    let v = live c.args.parts.now in
    let inventory = c.args.inventory.now in
    let first = subst (λ (o : Option ℕ). MatchOption o (AllVerify v inventory) (λ at. IsFirstFalse v inventory at)) c.in-Some.is c.in_ok-at.ensures in
    let found = c.in_ok-fault-2.ensures in
    inr (
      c.in-Some.at,
      search rules,
      first,
      λ i. record {
        reason = found.0 i;
        kept = (found.1 ∙ ap number_bytes c.from.ensures) i;
        came = (found.2 ∙ ap (λ (l : List Entry). number_bytes (length l)) c.get.ensures) i;
      },
    )
