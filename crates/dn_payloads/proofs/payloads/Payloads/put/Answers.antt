use Rattle.std.proofs.Common.{rules, ◌≡◌, ◌++◌, ◌∷◌, [], None, Some, subst, sym, refl, ◌∙◌, ℕ, true, false}
use Rattle.std.specs.Prelude.{slice_get}
use Rattle.dn_payloads.specs.Payloads.{IsNumbered, IsFound, IsNumberedBy, PayloadView, PayloadsView}
use Rattle.dn_payloads.specs.Inside.{AreKept, items_of}
use Rattle.dn_payloads.proofs.Stores.{known, added, appended, put}
use Rattle.dn_payloads.proofs.payloads.Payloads.put.Goals as goal

pub returns-in-Some : goal.returns-in-Some
returns-in-Some c =
    let at = known c.self.inside.contents.entries c.in-Some.number c.args.bytes (sym c.get_index_of.ensures.index ∙ c.in-Some.is) in
    record { numbered = subst (λ v. IsNumberedBy v c.args.bytes.items v c.in-Some.number false) c.self.view_is (refl, at.0, at.1, at.2); roster = refl }

pub invariant_of-self-2 : goal.invariant_of-self-2
invariant_of-self-2 c =
    let stands_last = appended c.self.inside.contents.entries c.insert.new.self.entries c.args.bytes c.in_ok-content.content c.in_ok-insert.ensures.entries (search rules) in
    subst (λ es. AreKept c.self.inside.roster es) (sym stands_last) (added c.self.inside.roster c.self.inside.contents.entries c.args.bytes c.in_ok-content.content c.self.invariant (search rules))

pub returns : goal.returns
returns c =
    let stands_last = appended c.self.inside.contents.entries c.insert.new.self.entries c.args.bytes c.in_ok-content.content c.in_ok-insert.ensures.entries (search rules) in
    record {
      numbered = subst (λ (v : PayloadsView). IsNumberedBy v c.args.bytes.items (record { roster = c.self.inside.roster; items = items_of c.insert.new.self.entries }) c.len-number.result true) c.self.view_is
          (put c.self.inside.roster c.self.inside.contents.entries c.insert.new.self.entries c.args.bytes c.in_ok-content.content c.len-number.result stands_last (search rules) (search rules) (search rules));
      roster = search rules;
    }
