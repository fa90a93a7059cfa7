-- Envelopes that are opened one after another.
use Rattle.std.proofs.Common.{◌≡◌, ℕ, ◌+◌, ◌<◌, List, [], ◌∷◌, ◌++◌, length, map, take, get_or, sym, ap, subst, ◌∙◌}
use Rattle.std.specs.Prelude.{All}
use Rattle.std.proofs.lemmas.List.{take_more, map-append, get_or_default}
use Rattle.std.proofs.lemmas.List.Elements.{All-push}
use Rattle.dn_roster.specs.Roster.{RosterView}
use Rattle.dn_seal.specs.declared.unopened.Unopened.{Unopened}
use Rattle.dn_seal.specs.Said.{SaidView, IsSaid, IsUnder, IsUnopened}
use Rattle.dn_seal.specs.Challenge.{AreOpened, IsFirstUnopened}

pub opened_more : (roster : RosterView) (xs : List (List ℕ)) (shown new : List SaidView) (i : ℕ) (x : List ℕ) (said : SaidView) → AreOpened roster (take i xs) shown
    → new ≡ shown ++ said ∷ [] → IsSaid said × IsUnder roster said × (said.bytes ≡ x) → x ≡ get_or xs i x → i < length xs → AreOpened roster (take (i + 1) xs) new
opened_more roster xs shown new i x said held pushed is at within = record {
  bytes =
      ap (map (λ s. s.bytes)) pushed ∙ map-append (λ (s : SaidView). s.bytes) shown (said ∷ []) ∙ (λ k. held.bytes k ++ is.2 k ∷ []) ∙ ap (λ y. take i xs ++ y ∷ []) at
      ∙ sym (take_more xs i x within);
  said = subst (All IsSaid) (sym pushed) (All-push IsSaid shown said held.said is.0);
  under = subst (All (IsUnder roster)) (sym pushed) (All-push (IsUnder roster) shown said held.under is.1);
}

pub first_unopened : (roster : RosterView) (xs : List (List ℕ)) (shown : List SaidView) (i : ℕ) (x : List ℕ) (fault : Unopened) → AreOpened roster (take i xs) shown
    → x ≡ get_or xs i x → i < length xs → IsUnopened roster x fault → IsFirstUnopened roster xs fault
first_unopened roster xs shown i x fault held at within un = record {
  at = i;
  within = within;
  before = shown;
  opened = held;
  unopened = subst (λ y. IsUnopened roster y fault) (at ∙ get_or_default xs i x [] within) un;
}
