-- What is kept of a round grows.
use Rattle.std.proofs.Common.{◌≡◌, ℕ, Bool, true, false, List, [], ◌∷◌, ◌++◌, length, Some, None, cond, refl, sym, ap, subst, ◌∙◌, inl, inr}
use Rattle.std.specs.Prelude.{Option, All, find, option_map, IsSome, ◌⊎◌}
use Rattle.std.proofs.lemmas.List.Elements.{All-append, All-cons, All-nil}
use Rattle.dn_record_types.specs.declared.body.Body.{Body}
use Rattle.dn_record_types.specs.declared.inventory.Inventory.{Inventory}
use Rattle.dn_record_types.specs.declared.statement.Statement.{Statement}
use Rattle.dn_record_types.specs.declared.statement.Statement.TheVariants as kinds
use Rattle.dn_records.specs.Records.{kind_byte}
use Rattle.dn_seal.specs.Dealt.{server}
use Rattle.dn_seal.specs.Said.{SaidView, IsSaid, IsUnder}
use Rattle.dn_cert.specs.Signed.{EntryVerifies}
use Rattle.dn_server.specs.declared.run.Stage.{Stage}
use Rattle.dn_server.specs.declared.run.Stage.TheVariants as stages
use Rattle.dn_server.specs.Justified.{servers_of}
use Rattle.dn_server.specs.Server.{is_of, kept_of, statement_of, AreKept}
use Rattle.dn_server.specs.Keeping.{round_of, HasAll}
use Rattle.dn_server.proofs.KeptLemmas.{kept_kind, kept_by}
use Rattle.dn_exchange.specs.Invariant.{IsRunning, IsAtStage, AreKeptWell, AreInventoriesGood, AreStringsLong, IsDataList, HasListed, HasCommitted, HasSigned, Standing}

-- a statement more of server j, where none of its kind is kept
module _ {X : Type 0} (p : X → Bool) where
  pub find_stays : (xs : List X) (y x : X) → find p xs ≡ Some x → find p (xs ++ y ∷ []) ≡ Some x
  find_stays [] y x e = absurd (never e)
    where
      never : None ≡ Some x → ⊥
      never h = cc
  find_stays (z ∷ zs) y x e = by (p z) (find_stays zs y x) e
    where
      by : (b : Bool) → (find p zs ≡ Some x → find p (zs ++ y ∷ []) ≡ Some x) → cond b (Some z) (find p zs) ≡ Some x → cond b (Some z) (find p (zs ++ y ∷ [])) ≡ Some x
      by true go h = h
      by false go h = go h

  -- what is found in the longer list was found before, or is the new one
  pub find_comes : (xs : List X) (y x : X) → find p (xs ++ y ∷ []) ≡ Some x → (find p xs ≡ Some x) ⊎ ((find p xs ≡ None) × (x ≡ y) × (p y ≡ true))
  find_comes [] y x e = by (p y) refl e
    where
      some_is : Some y ≡ Some x → x ≡ y
      some_is h = let same : y ≡ x = cc in sym same

      by : (b : Bool) → p y ≡ b → cond b (Some y) None ≡ Some x → (find p [] ≡ Some x) ⊎ ((find p [] ≡ None) × (x ≡ y) × (p y ≡ true))
      by true is h = inr (refl, some_is h, is)
      by false is h = absurd (let never = h in cc)
  find_comes (z ∷ zs) y x e = by (p z) (find_comes zs y x) e
    where
      by : (b : Bool) → (find p (zs ++ y ∷ []) ≡ Some x → (find p zs ≡ Some x) ⊎ ((find p zs ≡ None) × (x ≡ y) × (p y ≡ true))) → cond b (Some z) (find p (zs ++ y ∷ [])) ≡ Some x → (cond b (Some z) (find p zs) ≡ Some x) ⊎ ((cond b (Some z) (find p zs) ≡ None) × (x ≡ y) × (p y ≡ true))
      by true go h = inl h
      by false go h = go h

  pub find_new : (xs : List X) (y : X) → find p xs ≡ None → p y ≡ true → find p (xs ++ y ∷ []) ≡ Some y
  find_new [] y none is = ap (λ b. cond b (Some y) None) is
  find_new (z ∷ zs) y none is = by (p z) (λ h. find_new zs y h is) none
    where
      by : (b : Bool) → (find p zs ≡ None → find p (zs ++ y ∷ []) ≡ Some y) → cond b (Some z) (find p zs) ≡ None → cond b (Some z) (find p (zs ++ y ∷ [])) ≡ Some y
      by true go h = absurd (let never = h in cc)
      by false go h = go h

pub statement_found : (o : Option SaidView) (s : Statement) → option_map (λ (x : SaidView). x.statement) o ≡ Some s → (said : SaidView) × (o ≡ Some said) × (said.statement ≡ s)
statement_found None s e = absurd (let never = e in cc)
statement_found (Some said) s e = (said, refl, cc)

module _ (kept : List SaidView) (y : SaidView) where
  abbrev pub more : List SaidView
  more = kept ++ y ∷ []

  pub statement_stays : (kind j : ℕ) (s : Statement) → statement_of kept kind j ≡ Some s → statement_of more kind j ≡ Some s
  statement_stays kind j s e =
      let found = statement_found (kept_of kept kind j) s e in
      ap (option_map (λ (x : SaidView). x.statement)) (find_stays (is_of kind j) kept y found.0 found.1) ∙ ap Some found.2

  -- what is kept is what was, or the new one
  pub statement_comes : (kind j : ℕ) (s : Statement) → statement_of more kind j ≡ Some s
      → (statement_of kept kind j ≡ Some s) ⊎ ((y.statement ≡ s) × (kind_byte s ≡ kind) × (kept_of kept kind j ≡ None) × (y.signer ≡ server j))
  statement_comes kind j s e =
      let found = statement_found (kept_of more kind j) s e in
      elim (find_comes (is_of kind j) kept y found.0 found.1) [
        | inl old ↦ inl (ap (option_map (λ (x : SaidView). x.statement)) old ∙ ap Some found.2)
        | inr new ↦
            let is : y.statement ≡ s = ap (λ (x : SaidView). x.statement) (sym new.1) ∙ found.2 in
            inr (is, ap kind_byte (sym is) ∙ (kind_of_one new.2).0, new.0, (kind_of_one new.2).1)
      ]
    where
      kind_of_one : is_of kind j y ≡ true → (kind_byte y.statement ≡ kind) × (y.signer ≡ server j)
      kind_of_one h = (kept_kind (y ∷ []) kind j y (ap (λ b. cond b (Some y) None) h), kept_by (y ∷ []) kind j y (ap (λ b. cond b (Some y) None) h))

  pub all_stay : (kind n : ℕ) → HasAll kind kept n → HasAll kind more n
  all_stay kind n has j lt = by (kept_of kept kind j) refl (has j lt)
    where
      by : (o : Option SaidView) → kept_of kept kind j ≡ o → IsSome o → IsSome (kept_of more kind j)
      by None e h = absurd (let never = h in cc)
      by (Some said) e h = subst IsSome (sym (find_stays (is_of kind j) kept y said e)) h

  pub kept_stays : {A : Type 0} (make : A → Statement) (kind n : ℕ) (xs : List A) → AreKept make kind kept n xs → AreKept make kind more n xs
  kept_stays make kind n xs are = record { each = are.each; say = λ j x there. statement_stays kind j (make x) (are.say j x there) }

-- ---- a round that runs, with a statement more that is new and has no fault

-- what is asked of the new statement, beside what is asked of all: an inventory follows the round's prev, and its entries verify; a ciphertext
-- has the round's length; and a body is the one that the server signed, if it did
pub record IsGood (x : Standing) (y : SaidView) : Type 0 where
  pub round : round_of y.statement ≡ Some x.r
  pub said : IsSaid y
  pub under : IsUnder x.seat.roster y
  pub inventory : (inventory : Inventory) → y.statement ≡ kinds.Inventory inventory → (inventory.prev ≡ x.prev) × All (EntryVerifies x.seat.roster x.r x.prev) inventory.entries
  pub string : (s : List Bool) → y.statement ≡ kinds.Reveal x.r s → length s ≡ x.bits
  pub body : (own b : Body) → x.stage ≡ stages.Signed → statement_of x.kept 6 x.seat.number ≡ Some (kinds.Sign own) → y.statement ≡ kinds.Sign b → b ≡ own

module _ (x : Standing) (y : SaidView) (good : IsGood x y) where
  abbrev pub with_more : Standing
  with_more = record x { kept = more x.kept y }

  kept_well : AreKeptWell x.seat.roster x.r x.kept → AreKeptWell x.seat.roster x.r (more x.kept y)
  kept_well a = record {
    round = All-append (λ (s : SaidView). round_of s.statement ≡ Some x.r) x.kept (y ∷ []) a.round (All-cons (λ (s : SaidView). round_of s.statement ≡ Some x.r) y [] good.round (All-nil (λ (s : SaidView). round_of s.statement ≡ Some x.r)));
    said = All-append IsSaid x.kept (y ∷ []) a.said (All-cons IsSaid y [] good.said (All-nil IsSaid));
    under = All-append (IsUnder x.seat.roster) x.kept (y ∷ []) a.under (All-cons (IsUnder x.seat.roster) y [] good.under (All-nil (IsUnder x.seat.roster)));
  }

  inventories_good : AreInventoriesGood x.seat.roster x.r x.prev x.kept → AreInventoriesGood x.seat.roster x.r x.prev (more x.kept y)
  inventories_good h j inventory e =
      elim (statement_comes x.kept y 3 j (kinds.Inventory inventory) e) [ inl old ↦ h j inventory old | inr new ↦ good.inventory inventory new.0 ]

  strings_long : AreStringsLong x.r x.bits x.kept → AreStringsLong x.r x.bits (more x.kept y)
  strings_long h j s e =
      elim (statement_comes x.kept y 5 j (kinds.Reveal x.r s) e) [ inl old ↦ h j s old | inr new ↦ good.string s new.0 ]

  pub listed_on : HasListed x → HasListed with_more
  listed_on h = statement_stays x.kept y 3 x.seat.number (kinds.Inventory x.inventory) h

  pub data_on : (listed : _) → IsDataList x listed → IsDataList with_more listed
  data_on listed d = record { inventories = d.inventories; kept = kept_stays x.kept y kinds.Inventory 3 (servers_of x.seat) d.inventories d.kept; trim = d.trim; floor = d.floor }

  pub committed_on : HasCommitted x → HasCommitted with_more
  committed_on h = record { sum = h.sum; has = h.has; long = h.long; listing = data_on h.sum.listed h.listing }

  pub signed_on : x.stage ≡ stages.Signed → HasSigned x → HasSigned with_more
  signed_on at h = record {
    body = h.body;
    kept = statement_stays x.kept y 6 x.seat.number (kinds.Sign h.body) h.kept;
    unopposed = λ j c lt e.
        elim (statement_comes x.kept y 6 j (kinds.Sign c) e) [ inl old ↦ h.unopposed j c lt old | inr new ↦ good.body h.body c at h.kept new.0 ];
    group = h.group;
    round = h.round;
    follows = h.follows;
  }

  stage_on : (s : Stage) → x.stage ≡ s → IsAtStage s x → IsAtStage s with_more
  stage_on stages.Collecting e h = tt
  stage_on stages.Listed e h = listed_on h
  stage_on stages.Committed e h = (listed_on h.0, committed_on h.1)
  stage_on stages.Revealed e h = (listed_on h.0, committed_on h.1, all_stay x.kept y 4 (servers_of x.seat) h.2)
  stage_on stages.Signed e h = (listed_on h.0, signed_on e h.1)

  -- at its stage
  pub runs_with : IsRunning x → IsRunning with_more
  runs_with h = record {
    course = h.course;
    kept = kept_well h.kept;
    inventories = inventories_good h.inventories;
    strings = strings_long h.strings;
    stage = stage_on x.stage refl h.stage;
  }
