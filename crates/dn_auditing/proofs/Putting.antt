-- An auditor that is told of what is put knows what was.
use Rattle.std.proofs.Common.{◌≡◌, ℕ, List, [], ◌∷◌, ◌++◌, refl, sym, ap, subst, ◌∙◌, inl, inr, true, Bool}
use Rattle.std.specs.Prelude.{Contains, ◌⊎◌, ◌↔◌, IsTrue, slice_get, Some}
use Rattle.std.proofs.lemmas.List.Elements.{Contains-append_left}
use Rattle.dn_wire.specs.declared.ids.SignerId.{SignerId}
use Rattle.dn_record_types.specs.declared.statement.Statement.{Statement}
use Rattle.dn_records.specs.Records.{statement_bytes}
use Rattle.dn_roster.specs.Roster.{RosterView, IsRoster, digest_of, signed_bytes_of}
use Rattle.dn_seal.specs.Signer.{CanSign}
use Rattle.dn_cert.proofs.Orders.{here, later, nothing}
use Rattle.dn_audit.specs.Auditor.{AuditorView, RunStrings, TellsOf, AddsStrings, Looks, HasSigned, hashed_sum}
use Rattle.dn_audit.specs.Group.{GroupView as Marked}
use Rattle.dn_headline.specs.Group.{GroupView, IsHonestKey}
use Rattle.dn_headline.specs.Log.{Put}
use Rattle.dn_headline.specs.Run.{SumMade}
use Rattle.dn_headline.specs.Spoken.{IsInFront}
use Rattle.dn_auditing.specs.Puts.{WasPut, AreTheirs}
use Rattle.dn_auditing.specs.Shows.{AddsShown, AreStringsOf}
use Rattle.dn_auditing.specs.Known.{MarksKeys, Knows, NotesFront, IsOwnFront}
use Rattle.dn_auditing.proofs.Signatures.{to_run, to_audit, front_is_signed, can_be_signed, key_is_known}
use Rattle.dn_auditing.proofs.SignedBytes.{signed_once}
use Rattle.dn_auditing.proofs.Places.{was_more, was_last, was_cases, theirs_so_far, theirs_last, theirs_with, signed_before}
use Rattle.dn_auditing.proofs.Strings.{strings_more, strings_again, strings_made, strings_so}

abbrev signed_bytes : RosterView → SignerId → Statement → List ℕ
signed_bytes roster who s = signed_bytes_of (digest_of roster) who (statement_bytes s)

-- ---- what is noted of the statement in front

module _ (g : GroupView) (is_roster : IsRoster g.roster) (own : Bool) (bytes : List ℕ) (old new : AuditorView) (notes : NotesFront g.roster own bytes old new) where
  noted_still : (x : List ℕ) → Contains old.signed x → Contains new.signed x
  noted_still x h = (notes.signed x).1 (inl h)

  noted_front : own ≡ true → (who : SignerId) (s : Statement) → IsInFront g.roster bytes who s → HasSigned new.signed g.roster who s
  noted_front is who s front = (notes.signed (signed_bytes g.roster who s)).1 (inr (is, who, s, front, refl))

  -- what is noted was, or is in front
  noted_cases : (who : SignerId) (s : Statement) → CanSign who s → HasSigned new.signed g.roster who s
      → HasSigned old.signed g.roster who s ⊎ ((own ≡ true) × IsInFront g.roster bytes who s)
  noted_cases who s can h =
      elim ((notes.signed (signed_bytes g.roster who s)).0 h) [
        | inl before ↦ inl before
        | inr now ↦ inr (
          now.0,
          let can_front = can_be_signed g.roster is_roster bytes now.1 now.2 (front_is_signed g.roster bytes now.1 now.2 now.3) in
              let same = signed_once (digest_of g.roster) who now.1 s now.2 can can_front now.4 in
              subst (λ (t : Statement). IsInFront g.roster bytes who t) (sym same.1)
              (subst (λ (k : SignerId). IsInFront g.roster bytes k now.2) (sym same.0) now.3),
        )
      ]

-- ---- bytes that are put for the first time

module _ (g : GroupView) (is_roster : IsRoster g.roster) (marked : Marked) (marks : MarksKeys g marked) (puts : List Put) (made : List SumMade) (p : Put)
    (old mid looked new : AuditorView) (more : RunStrings → RunStrings) (front_own : IsOwnFront g p) (knows : Knows g puts made old)
    (notes : NotesFront g.roster p.own p.bytes old mid) (looks : Looks g.roster marked mid looked p.bytes) (adds : AddsStrings looked new more)
    (shows : AddsShown g.roster p.bytes more) where
  abbrev now : List Put
  now = puts ++ p ∷ []

  -- what is noted was put, where all so far is theirs
  noted_is_put : IsTrue old.are_theirs → (who : SignerId) (s : Statement) → CanSign who s → IsHonestKey g who → HasSigned mid.signed g.roster who s → WasPut g now who s
  noted_is_put theirs who s can honest h =
      elim (noted_cases g is_roster p.own p.bytes old mid notes who s can h) [
        | inl before ↦ was_more g puts who s (p ∷ []) (knows.only theirs who s can honest before)
        | inr front ↦ was_last g puts who s p front.0 (front_own front.0 who s front.1) front.1
      ]

  -- and what was put is noted
  put_is_noted : (who : SignerId) (s : Statement) → WasPut g now who s → HasSigned mid.signed g.roster who s
  put_is_noted who s h =
      elim (was_cases g puts who s p h) [
        | inl before ↦ noted_still g is_roster p.own p.bytes old mid notes _ (knows.signed who s before)
        | inr last ↦ noted_front g is_roster p.own p.bytes old mid notes last.0 who s last.2
      ]

  were_theirs : IsTrue new.are_theirs → IsTrue old.are_theirs
  were_theirs h = subst IsTrue notes.are_theirs (looks.are_theirs.0 (subst IsTrue adds.are_theirs h)).0

  all_theirs : IsTrue new.are_theirs → AreTheirs g now
  all_theirs h =
      let theirs = were_theirs h in
      let seen = (looks.are_theirs.0 (subst IsTrue adds.are_theirs h)).1 in
      theirs_with g puts p (knows.theirs.0 theirs) (λ who s honest signed.
      let known = key_is_known g.roster is_roster p.bytes who s signed in
      noted_is_put theirs who s (can_be_signed g.roster is_roster p.bytes who s signed) honest
      (seen who s (to_audit g.roster p.bytes who s signed) ((marks who known.0 known.1).0 honest)))

  are_all : AreTheirs g now → IsTrue new.are_theirs
  are_all h =
      let before : IsTrue mid.are_theirs = subst IsTrue (sym notes.are_theirs) (knows.theirs.1 (theirs_so_far g puts p h)) in
      subst IsTrue (sym adds.are_theirs) (looks.are_theirs.1 (
        before,
        λ who s signed unmarked.
            let there = to_run g.roster p.bytes who s signed in
            let known = key_is_known g.roster is_roster p.bytes who s there in
            put_is_noted who s (theirs_last g puts p h who s ((marks who known.0 known.1).1 unmarked) there),
      ))

  same_signed : new.signed ≡ mid.signed
  same_signed = adds.signed ∙ looks.signed

  pub first_put : Knows g now made new
  first_put = record {
    theirs = (all_theirs, are_all);
    signed = λ who s h. subst (λ l. HasSigned l g.roster who s) (sym same_signed) (put_is_noted who s h);
    only = λ theirs who s can honest h. noted_is_put (were_theirs theirs) who s can honest (subst (λ l. HasSigned l g.roster who s) same_signed h);
    strings = more knows.strings;
    are = strings_more g puts made knows.strings knows.are p more shows;
    tells = adds.tells knows.strings (looks.tells knows.strings (notes.tells knows.strings knows.tells));
  }

-- ---- bytes that were put before

-- the statement in front of them is noted again
pub noted_again : (g : GroupView) → IsRoster g.roster → (puts : List Put) (made : List SumMade) (own : Bool) (bytes : List ℕ) (q : Put) (old new : AuditorView)
    → Contains puts q → q.bytes ≡ bytes → NotesFront g.roster own bytes old new → Knows g puts made old → Knows g puts made new
noted_again g is_roster puts made own bytes q old new among same notes knows = record {
  theirs = (
    λ h. knows.theirs.0 (subst IsTrue notes.are_theirs h),
    λ h. subst IsTrue (sym notes.are_theirs) (knows.theirs.1 h),
  );
  signed = λ who s h. noted_still g is_roster own bytes old new notes _ (knows.signed who s h);
  only = λ theirs who s can honest h.
      let were : IsTrue old.are_theirs = subst IsTrue notes.are_theirs theirs in
      elim (noted_cases g is_roster own bytes old new notes who s can h) [
        | inl before ↦ knows.only were who s can honest before
        | inr front ↦ signed_before g puts q bytes among same (knows.theirs.0 were) who s honest (front_is_signed g.roster bytes who s front.1)
      ];
  strings = knows.strings;
  are = knows.are;
  tells = notes.tells knows.strings knows.tells;
}

-- they are put again, where the statement in front is known to be signed
pub put_again : (g : GroupView) (puts : List Put) (made : List SumMade) (p q : Put) (a : AuditorView) → Contains puts q → q.bytes ≡ p.bytes
    → (p.own ≡ true → (who : SignerId) (s : Statement) → IsInFront g.roster p.bytes who s → HasSigned a.signed g.roster who s) → Knows g puts made a
    → Knows g (puts ++ p ∷ []) made a
put_again g puts made p q a among same noted knows = record {
  theirs = (
    λ h. let theirs = knows.theirs.0 h in
        theirs_with g puts p theirs (λ who s honest signed. was_more g puts who s (p ∷ []) (signed_before g puts q p.bytes among same theirs who s honest signed)),
    λ h. knows.theirs.1 (theirs_so_far g puts p h),
  );
  signed = λ who s h. elim (was_cases g puts who s p h) [ inl before ↦ knows.signed who s before | inr last ↦ noted last.0 who s last.2 ];
  only = λ theirs who s can honest h. was_more g puts who s (p ∷ []) (knows.only theirs who s can honest h);
  strings = knows.strings;
  are = strings_again g puts made knows.strings knows.are p q among same;
  tells = knows.tells;
}

no_more : (xs : List Put) → xs ≡ xs ++ []
no_more [] = refl
no_more (x ∷ xs) = ap (λ ys. x ∷ ys) (no_more xs)

both_ways : (xs ys zs : List Put) → (xs ++ ys) ++ zs ≡ xs ++ (ys ++ zs)
both_ways [] ys zs = refl
both_ways (x ∷ xs) ys zs = ap (λ ws. x ∷ ws) (both_ways xs ys zs)

-- and again any number of times
pub put_often : (g : GroupView) (puts more : List Put) (made : List SumMade) (p q : Put) (a : AuditorView) → Contains puts q → q.bytes ≡ p.bytes
    → ((o : Put) → Contains more o → p ≡ o)
    → (p.own ≡ true → (who : SignerId) (s : Statement) → IsInFront g.roster p.bytes who s → HasSigned a.signed g.roster who s) → Knows g puts made a
    → Knows g (puts ++ more) made a
put_often g puts [] made p q a among same each noted knows = subst (λ ps. Knows g ps made a) (no_more puts) knows
put_often g puts (o ∷ os) made p q a among same each noted knows =
    let once = put_again g puts made p q a among same noted knows in
    let is : p ≡ o = each o (here o os) in
    subst (λ ps. Knows g ps made a) (both_ways puts (o ∷ []) os)
    (put_often g (puts ++ o ∷ []) os made p q a (Contains-append_left puts (o ∷ []) q among) same (λ x h. each x (later o os x h)) noted
    (subst (λ (x : Put). Knows g (puts ++ x ∷ []) made a) is once))

-- ---- ciphertexts that servers make

-- the auditor is told of one
pub sum_told : (g : GroupView) (puts : List Put) (made : List SumMade) (m : SumMade) (old new : AuditorView)
    → AddsStrings old new (λ x. record x { sums = x.sums ++ hashed_sum m.r.0 m.server.0 m.sum ∷ [] }) → Knows g puts made old → Knows g puts (made ++ m ∷ []) new
sum_told g puts made m old new adds knows = record {
  theirs = (λ h. knows.theirs.0 (subst IsTrue adds.are_theirs h), λ h. subst IsTrue (sym adds.are_theirs) (knows.theirs.1 h));
  signed = λ who s h. subst (λ l. HasSigned l g.roster who s) (sym adds.signed) (knows.signed who s h);
  only = λ theirs who s can honest h. knows.only (subst IsTrue adds.are_theirs theirs) who s can honest (subst (λ l. HasSigned l g.roster who s) adds.signed h);
  strings = record knows.strings { sums = knows.strings.sums ++ hashed_sum m.r.0 m.server.0 m.sum ∷ [] };
  are = strings_made g puts made knows.strings knows.are m;
  tells = adds.tells knows.strings knows.tells;
}

-- where others are those that were made
pub made_so : (g : GroupView) (puts : List Put) (made other : List SumMade) (a : AuditorView) → ((m : SumMade) → Contains made m ↔ Contains other m) → Knows g puts made a → Knows g puts other a
made_so g puts made other a same knows = record {
  theirs = knows.theirs;
  signed = knows.signed;
  only = knows.only;
  strings = knows.strings;
  are = strings_so g puts made knows.strings knows.are other same;
  tells = knows.tells;
}

-- ---- the beginning

nothing_at : (puts : List Put) (n : ℕ) (p : Put) → puts ≡ [] → slice_get puts n ≡ Some p → ⊥
nothing_at [] n p none h = absurd cc
nothing_at (q ∷ qs) n p none h = absurd cc

-- where nothing was put, nothing was signed
pub knows_nothing : (g : GroupView) (made : List SumMade) (a : AuditorView) (x : RunStrings) → a.signed ≡ [] → a.are_theirs ≡ true → AreStringsOf g [] made x → TellsOf a x
    → Knows g [] made a
knows_nothing g made a x none theirs are tells = record {
  theirs = (λ h n put who s at honest signed. absurd (nothing_at [] n put refl at), λ h. subst IsTrue (sym theirs) refl);
  signed = λ who s h. absurd (nothing_at [] h.1.at h.1.put refl h.1.there);
  only = λ h who s can honest signed. absurd (none_signed (subst (λ l. HasSigned l g.roster who s) none signed));
  strings = x;
  are = are;
  tells = tells;
}
  where
    none_signed : {b : List ℕ} → Contains [] b → ⊥
    none_signed {b} h = nothing b h
