-- What a worker records of its calls.
use Rattle.std.proofs.Common.{◌≡◌, ℕ, ◌+◌, ◌<◌, ◌≤◌, List, [], ◌∷◌, ◌++◌, length, map, Bool, true, false, refl, sym, ap, subst, ◌∙◌, arith, None}
use Rattle.std.specs.List.{filter}
use Rattle.std.proofs.lemmas.List.{map-append}
use Rattle.std.proofs.lemmas.List.Elements.{filter-append}
use Rattle.dn_counts.specs.Counts.{total}
use Rattle.dn_gate.specs.Draws.{Draw}
use Rattle.dn_gate.specs.Pass.{PassView}
use Rattle.dn_wire.specs.declared.ids.ClientId.{ClientId}
use Rattle.dn_crew.specs.Race.{client_of}
use Rattle.dn_crew.specs.declared.sharing.Drawn.{Drawn}
use Rattle.dn_crew.specs.Shares.{IsRecorded, shown, recorded, put_by, is_included, counted}
use Rattle.dn_crew.proofs.Totals.{total-push}

module _ (list : List (ClientId × ℕ)) (worker : ℕ) where
  kept_yes : (x : Drawn) → is_included x.told ≡ true → filter (λ d. is_included d.told) (x ∷ []) ≡ x ∷ []
  kept_yes x e = rw e refl

  kept_no : (x : Drawn) → is_included x.told ≡ false → filter (λ d. is_included d.told) (x ∷ []) ≡ []
  kept_no x e = rw e refl

  -- a draw that is included, with its value
  pub drew_in : (p q : PassView ℕ) (draws more : List Drawn) (repeats : List ℕ) (d : Draw) (x : Drawn)
      → IsRecorded list worker p draws repeats → q.draws ≡ p.draws ++ d ∷ [] → q.values ≡ p.values ++ put_by list x ∷ [] → q.repeats ≡ p.repeats
      → more ≡ draws ++ x ∷ [] → shown d ≡ recorded list x → is_included x.told ≡ true
      → IsRecorded list worker q more repeats
  drew_in p q draws more repeats d x h qd qv qr em es et = record {
    draws_are = ap (map shown) qd ∙ map-append shown p.draws (d ∷ []) ∙ ap (λ l. l ++ shown d ∷ []) h.draws_are ∙ ap (λ s. map (recorded list) draws ++ s ∷ []) es ∙ sym (map-append (recorded list) draws (x ∷ [])) ∙ ap (map (recorded list)) (sym em);
    repeats_are = qr ∙ h.repeats_are;
    values_are = qv ∙ ap (λ l. l ++ put_by list x ∷ []) h.values_are ∙ sym (map-append (put_by list) (filter (λ e. is_included e.told) draws) (x ∷ [])) ∙ ap (λ l. map (put_by list) (filter (λ e. is_included e.told) draws ++ l)) (sym (kept_yes x et)) ∙ ap (map (put_by list)) (sym (filter-append (λ e. is_included e.told) draws (x ∷ []))) ∙ ap (λ l. map (put_by list) (filter (λ e. is_included e.told) l)) (sym em);
  }

  -- a draw that came late
  pub drew_late : (p q : PassView ℕ) (draws more : List Drawn) (repeats : List ℕ) (d : Draw) (x : Drawn)
      → IsRecorded list worker p draws repeats → q.draws ≡ p.draws ++ d ∷ [] → q.values ≡ p.values → q.repeats ≡ p.repeats
      → more ≡ draws ++ x ∷ [] → shown d ≡ recorded list x → is_included x.told ≡ false
      → IsRecorded list worker q more repeats
  drew_late p q draws more repeats d x h qd qv qr em es et = record {
    draws_are = ap (map shown) qd ∙ map-append shown p.draws (d ∷ []) ∙ ap (λ l. l ++ shown d ∷ []) h.draws_are ∙ ap (λ s. map (recorded list) draws ++ s ∷ []) es ∙ sym (map-append (recorded list) draws (x ∷ [])) ∙ ap (map (recorded list)) (sym em);
    repeats_are = qr ∙ h.repeats_are;
    values_are = qv ∙ h.values_are ∙ ap (map (put_by list)) (sym (Rattle.std.proofs.Common.append-nil _) ∙ ap (λ l. filter (λ e. is_included e.told) draws ++ l) (sym (kept_no x et)) ∙ sym (filter-append (λ e. is_included e.told) draws (x ∷ []))) ∙ ap (λ l. map (put_by list) (filter (λ e. is_included e.told) l)) (sym em);
  }

  -- a repeat
  pub repeated : (p q : PassView ℕ) (draws : List Drawn) (repeats more : List ℕ) (n c : ℕ)
      → IsRecorded list worker p draws repeats → q.draws ≡ p.draws → q.values ≡ p.values → q.repeats ≡ p.repeats ++ (worker, c) ∷ []
      → more ≡ repeats ++ n ∷ [] → client_of list n ≡ c
      → IsRecorded list worker q draws more
  repeated p q draws repeats more n c h qd qv qr em ec = record {
    draws_are = ap (map shown) qd ∙ h.draws_are;
    repeats_are = qr ∙ ap (λ l. l ++ (worker, c) ∷ []) h.repeats_are ∙ ap (λ k. map (λ m. (worker, client_of list m)) repeats ++ (worker, k) ∷ []) (sym ec) ∙ sym (map-append (λ m. (worker, client_of list m)) repeats (n ∷ [])) ∙ ap (map (λ m. (worker, client_of list m))) (sym em);
    values_are = qv ∙ h.values_are;
  }

-- one number more was counted
pub counted_draw : (h : ℕ → ℕ) (draws more : List Drawn) (repeats : List ℕ) (x : Drawn) → more ≡ draws ++ x ∷ [] → counted h more repeats ≡ counted h draws repeats + h x.number
counted_draw h draws more repeats x e = omega (arith, ap (total (λ d. h d.number)) e, total-push (λ d. h d.number) draws x)

pub counted_repeat : (h : ℕ → ℕ) (draws : List Drawn) (repeats more : List ℕ) (n : ℕ) → more ≡ repeats ++ n ∷ [] → counted h draws more ≡ counted h draws repeats + h n
counted_repeat h draws repeats more n e = omega (arith, ap (total h) e, total-push h repeats n)
