use Rattle.std.proofs.Common.{rules, ◌≡◌, List, [], ◌∷◌, Vec, Global, ap, subst, sym}
use Rattle.dn_record_types.specs.declared.inventory.Inventory.{Inventory}
use Rattle.dn_record_types.specs.declared.statement.Statement.TheVariants as kinds
use Rattle.dn_server.specs.declared.act.Act.{Act}
use Rattle.dn_server.specs.declared.answer.Answer.TheVariants as answers
use Rattle.dn_server.specs.declared.parts.Parts.{Parts}
use Rattle.dn_server.specs.declared.run.Stage.TheVariants as stages
use Rattle.dn_server.specs.Parts.{live}
use Rattle.dn_rounds.specs.Sound.{Became}
use Rattle.dn_rounds.specs.declared.going.Due.{Due}
use Rattle.dn_rounds.specs.declared.going.Due.TheVariants as dues
use Rattle.dn_exchange.specs.Closing.{Closes}
use Rattle.dn_exchange.proofs.CloseLemmas.{listing_of, closing_told, closes_opposed, closes_said, closes_stuck}
use Rattle.dn_exchange.proofs.closing.close_out.Goals as goal
use Rattle.dn_exchange.proofs.closing.close_out.Goals.{in-Opposed, in-Stuck, in-Said+in_ok-go_on-in-Said, In_ok-due}

-- what became of the inventory
became : (g : _) (c : In_ok-due g) (d : Due) → c.in_ok-due.due ≡ d
    → Became (listing_of c.args.parts.now) stages.Listed c.args.parts.now c.say_due.new.parts (closing_told c.args.parts.now ∷ []) c.say_due.new.acts.items d
became g c d is =
    let p = c.args.parts.now in
    let mid = c.say_due.new.parts in
    let after = c.say_due.new.acts.items in
    let closed : c.push.new.self.items ≡ closing_told p ∷ [] = search rules in
    subst (λ (x : Due). Became (listing_of p) stages.Listed p mid (closing_told p ∷ []) after x) is
    (subst (λ (l : List Act). Became (listing_of p) stages.Listed p mid l after c.in_ok-due.due) closed
    (subst (λ (v : Inventory). Became (kinds.Inventory v) stages.Listed p mid c.push.new.self.items after c.in_ok-due.due) c.in_ok-inventory.ensures c.in_ok-due.ensures))

-- the parts and the acts of a branch
there : (p mid new : Parts) (l m : Vec Act Global) → new ≡ mid → m ≡ l → Closes (live p) l.items (live mid) → Closes (live p) m.items (live new)
there p mid new l m e f at =
    subst (λ (x : Parts). Closes (live p) m.items (live x)) (sym e) (subst (λ (x : Vec Act Global). Closes (live p) x.items (live mid)) (sym f) at)

pub returns : goal.returns
returns g c =
    let p = c.args.parts.now in
    let here = (goal.at.returns g c).In_ok-due in (
      c.match-due.acts.items,
      elim c.match-due.branch [
        | in-Opposed w ↦ there p c.say_due.new.parts c.match-due.parts c.say_due.new.acts c.match-due.acts w.parts-is w.acts-is (closes_opposed p c.say_due.new.parts c.say_due.new.acts.items (became g here dues.Opposed w.in-Opposed.is))
        | in-Stuck w ↦ there p c.say_due.new.parts c.match-due.parts c.say_due.new.acts c.match-due.acts w.parts-is w.acts-is (closes_stuck p c.say_due.new.parts c.say_due.new.acts.items c.requires.leaf (became g here dues.Stuck w.in-Stuck.is))
        | in-Said+in_ok-go_on-in-Said w ↦
            let more = w.in_ok-go_on-in-Said.ensures in
            there p w.go_on.new.parts c.match-due.parts w.go_on.new.acts c.match-due.acts w.parts-is w.acts-is
            (closes_said p c.say_due.new.parts w.go_on.new.parts c.say_due.new.acts.items w.go_on.new.acts.items more.0 (became g here dues.Said w.in-Said.is) more.1 more.2)
      ],
      ap answers.Acts c.of.ensures,
    )
