use Rattle.std.proofs.Common.{◌∷◌, ◌++◌, [], sym, subst, ap, ◌∙◌, refl, map}
use Rattle.std.specs.Prelude.{◌&&◌}
use Rattle.std.proofs.lemmas.List.Sorted.{IsPermutation-map}
use Rattle.dn_audit.specs.Strings.{Hashed, StringsView, Tells}
use Rattle.dn_audit.proofs.Telling.{tells_again, tells_still, tells_new}
use Rattle.dn_audit.proofs.Lists.{is_entry, no_entry, at_none, Contains-map, Contains-from_map}
use Rattle.dn_audit.proofs.strings.Strings.add.Goals as goal
use Rattle.dn_audit.proofs.strings.Strings.add.Goals.{then-self, else-self}

pub returns-after-self : goal.returns-after-self
returns-after-self c = λ strings tells.
    let is = c.self.view_is in
    let v : StringsView = record { first = map (λ e. record { digest = e.0; string = e.1.items }) c.self.inside.first.entries; differ = c.self.inside.differ } in
    let told : Tells v strings = subst (λ (x : StringsView). Tells x strings) (sym is) tells in
    let added : Hashed = record { digest = c.args.digest; string = c.args.string.items } in
    let first : Hashed = record { digest = c.args.digest; string = c.in-Some.first.now.items } in
    let there = Contains-map (λ e. record { digest = e.0; string = e.1.items }) c.self.inside.first.entries (c.args.digest, c.in-Some.first.now)
    (is_entry c.args.digest c.self.inside.first.entries c.in-Some.first.now (sym c.in-Some.ensures.value)) in
    elim c.if-self.branch [
      | then-self w ↦ subst (λ b. Tells (record v { differ = b }) (strings ++ added ∷ [])) (ap (λ b. b && c.are_same-same.result) w.if-self.true ∙ sym w.self-is)
          (tells_again v strings told added first there refl c.are_same-same.result c.are_same-same.ensures)
      | else-self w ↦ subst (λ b. Tells (record v { differ = b }) (strings ++ added ∷ [])) (sym w.self-is)
          (tells_still v strings told added first there refl w.if-self.false)
    ]

pub returns-in_ok-insert-in-None : goal.returns-in_ok-insert-in-None
returns-in_ok-insert-in-None c = λ strings tells.
    let v : StringsView = record { first = map (λ e. record { digest = e.0; string = e.1.items }) c.self.inside.first.entries; differ = c.self.inside.differ } in
    let told : Tells v strings = subst (λ (x : StringsView). Tells x strings) (sym c.self.view_is) tells in
    let added : Hashed = record { digest = c.args.digest; string = c.args.string.items } in
    let none = sym c.in-None.ensures.value in
    let moved = at_none c.in_ok-insert-in-None.field-0 _ _ (c.in_ok-insert-in-None.ensures.old ∙ none) c.in_ok-insert-in-None.ensures.entries in
    tells_new v strings told added
    (λ y h same. let e = Contains-from_map (λ e. record { digest = e.0; string = e.1.items }) c.self.inside.first.entries y h in
    no_entry c.args.digest c.self.inside.first.entries none e.0 e.1 (ap (λ (x : Hashed). x.digest) e.2 ∙ same))
    (map (λ e. record { digest = e.0; string = e.1.items }) c.insert.new.self.entries)
    (IsPermutation-map (λ e. record { digest = e.0; string = e.1.items }) _ _ moved)
