use Rattle.std.proofs.Common.{subst, sym, ap, ◌∙◌, ◌++◌, ◌∷◌, []}
use Rattle.std.proofs.lemmas.List.Elements.{All-push}
use Rattle.dn_seal.specs.Said.{IsUnder, SaidView}
use Rattle.dn_verify.proofs.hearing.hear.Goals as goal

pub returns-clause-under : goal.returns-clause-under
returns-clause-under c =
    rw c.in_ok-push.ensures.items
    (All-push (IsUnder c.args.roster.now) c.args.heard.now.items c.in_ok-copy.copy c.requires.heard
    (subst (IsUnder c.args.roster.now) (sym c.in_ok-copy.ensures.same) c.requires.under))

pub returns-clause-heard : goal.returns-clause-heard
returns-clause-heard c = c.in_ok-push.ensures.items ∙ ap (λ (x : SaidView). c.args.heard.now.items ++ x ∷ []) c.in_ok-copy.ensures.same
