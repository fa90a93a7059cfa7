-- The step that commits the server to its ciphertext.
use Rattle.std.proofs.Common.{◌≡◌, ℕ, Bool, true, false, List, [], ◌∷◌, get_or, Some, refl, sym, ap, subst, ◌∙◌}
use Rattle.std.specs.Prelude.{All, slice_get}
use Rattle.dn_record_types.specs.declared.body.Listed.{Listed}
use Rattle.dn_record_types.specs.declared.inventory.Inventory.{Inventory}
use Rattle.dn_record_types.specs.declared.shown.ShownCipher.{ShownCipher}
use Rattle.dn_record_types.specs.declared.statement.Statement.{Statement}
use Rattle.dn_record_types.specs.declared.statement.Statement.TheVariants as kinds
use Rattle.dn_seal.specs.Said.{SaidView, IsSaid}
use Rattle.dn_cert.specs.Trim.{IsInventory, IsTrim, given_to}
use Rattle.dn_cert.proofs.TrimLemmas.{trims_are_one_lem}
use Rattle.dn_server.specs.declared.act.Act.{Act}
use Rattle.dn_server.specs.declared.claims.Claim.{Claim}
use Rattle.dn_rounds.specs.declared.going.Due.{Due}
use Rattle.dn_rounds.specs.declared.going.Due.TheVariants as dues
use Rattle.dn_server.specs.declared.parts.Parts.{Parts}
use Rattle.dn_server.specs.declared.run.Run.{Run}
use Rattle.dn_server.specs.declared.run.Stage.TheVariants as stages
use Rattle.dn_server.specs.declared.run.Sum.{Sum}
use Rattle.dn_server.specs.Justified.{AreOfRows, AreIncluded, submission_of, server_string}
use Rattle.dn_server.specs.Server.{ServerView, servers_in, is_of, statement_of, AreKept, WasIncluded, course_of}
use Rattle.dn_server.specs.Keeping.{IsMissing}
use Rattle.dn_rounds.specs.Going.{IsListing, IsCommitDue, IsFree, HasLeaf, Stands, commitment_of, turned}
use Rattle.dn_rounds.specs.Going.Step.{commits, reveals, signs, signs_thin, certifies, commit_conflicts, reveal_conflicts, body_opposed, thin_opposed}
use Rattle.dn_server.specs.Parts.{live}
use Rattle.dn_rounds.specs.Sound.{Stepped, Became, has_moved, with_sum_if}
use Rattle.std.proofs.lemmas.Option.{slice_get-get_or}
use Rattle.dn_records.specs.Records.{IsStatement}
use Rattle.dn_server.proofs.KeptLemmas.{statement_said, All-find}
use Rattle.dn_rounds.proofs.StepLemmas.{missing_none}
use Rattle.dn_rounds.proofs.SignLemmas.{kept_one}

inventory_one : (x y : Inventory) → Some (kinds.Inventory x) ≡ Some (kinds.Inventory y) → x ≡ y
inventory_one x y e = cc

-- each inventory that is kept keeps the limits and orders of its format
abbrev pub InventoriesFit : ServerView → Type 0
InventoriesFit v = (inventories : List Inventory) → AreKept kinds.Inventory 3 v.run.kept (servers_in v) inventories → All IsInventory inventories

-- one list is the trim
pub listing_one : (v : ServerView) (a b : Bool) (l m : List Listed) → InventoriesFit v → IsListing v a l → IsListing v b m → l ≡ m
listing_one v a b l m fit s t =
    let same = kept_one kinds.Inventory 3 v.run.kept (servers_in v) s.inventories t.inventories inventory_one s.kept t.kept in
    trims_are_one_lem s.inventories (fit s.inventories s.kept) l m s.trim (subst (λ x. IsTrim x m) (sym same) t.trim)

claim_is : (a b : Claim) → Some (Some a) ≡ Some (Some b) → a ≡ b
claim_is a b e = cc

client_is : (run : Run) (l : Listed) (w : Statement) (c : List Bool) (i : WasIncluded run w c) → w ≡ submission_of (course_of run) l → i.client ≡ l.client
client_is run l w c i e = let h = sym i.is ∙ e in cc

-- one ciphertext was told Included for a row
cipher_one : (run : Run) (l : Listed) (c d : List Bool) → WasIncluded run (submission_of (course_of run) l) c → WasIncluded run (submission_of (course_of run) l) d → c ≡ d
cipher_one run l c d i k =
    let clients = client_is run l _ c i refl ∙ sym (client_is run l _ d k refl) in
    let claims = claim_is i.claim k.claim (sym i.claimed ∙ ap (λ x. slice_get run.claims x.0) clients ∙ k.claimed) in
    i.cipher ∙ ap (λ (x : Claim). x.cipher) claims ∙ sym k.cipher

-- the ciphertexts that go with rows are one list
pub own_one : (run : Run) (rows : List Listed) (own mine : List ShownCipher) → AreOfRows (course_of run) rows own → AreOfRows (course_of run) rows mine
    → AreIncluded (WasIncluded run) (course_of run) rows own → AreIncluded (WasIncluded run) (course_of run) rows mine → own ≡ mine
own_one run [] [] [] a b s t = refl
own_one run [] (x ∷ xs) mine a b s t = absurd a
own_one run [] [] (y ∷ ys) a b s t = absurd b
own_one run (l ∷ ls) [] mine a b s t = absurd a
own_one run (l ∷ ls) (x ∷ xs) [] a b s t = absurd b
own_one run (l ∷ ls) (x ∷ xs) (y ∷ ys) a b s t =
    let client = a.0.client ∙ sym b.0.client in
    let cipher = cipher_one run l x.cipher y.cipher s.0 t.0 in
    let rest = own_one run ls xs ys a.1 b.1 s.1 t.1 in
    λ i. record { client = client i; cipher = cipher i } ∷ rest i

-- one commitment is due
pub commitment_one : (v : ServerView) (s t : Sum) → InventoriesFit v → IsCommitDue v s → IsCommitDue v t → commitment_of v s ≡ commitment_of v t
commitment_one v s t fit d e =
    let lists = listing_one v false false s.listed t.listed fit d.listing e.listing in
    let rows = ap (λ l. given_to l v.seat.number) lists in
    let own = own_one v.run (given_to s.listed v.seat.number) s.own t.own d.summed.rows (subst (λ l. AreOfRows (course_of v.run) l t.own) (sym rows) e.summed.rows)
    d.summed.told (subst (λ l. AreIncluded (WasIncluded v.run) (course_of v.run) l t.own) (sym rows) e.summed.told) in
    let value : s.s ≡ t.s = d.summed.value ∙ (λ i. turned v.bend (server_string v.seat (course_of v.run) (lists i) (own i))) ∙ sym e.summed.value in
    ap (λ x. commitment_of v (record s { s = x })) value

-- data or none
pub never_both : (v : ServerView) (l m : List Listed) → InventoriesFit v → IsListing v false l → IsListing v true m → ⊥
never_both v l m fit s t =
    let lists = listing_one v false true l m fit s t in
    let none = subst (λ x. IsListing v true x) (sym lists) t in
    let a = s.floor in
    let b = none.floor in
    cc

module _ (v : ServerView) where
  -- with an inventory missing the server waits for it
  pub waits_for_inventories : v.run.stage ≡ stages.Listed → IsMissing 3 v.run.kept (servers_in v) → Inventory → Stands v
  waits_for_inventories at missing x did after (commits sum d f l e g) = missing_none kinds.Inventory 3 v.run.kept (servers_in v) d.listing.inventories d.listing.kept missing x
  waits_for_inventories at missing x did after (reveals sum d f l e g) = let h = d.stage in cc
  waits_for_inventories at missing x did after (signs sum b d f l e g) = let h = d.stage in cc
  waits_for_inventories at missing x did after (signs_thin b d f l e g) = missing_none kinds.Inventory 3 v.run.kept (servers_in v) d.listing.inventories d.listing.kept missing x
  waits_for_inventories at missing x did after (certifies b c d f l e g) = let h = d.stage in cc
  waits_for_inventories at missing x did after (commit_conflicts sum other d f e g) = missing_none kinds.Inventory 3 v.run.kept (servers_in v) d.listing.inventories d.listing.kept missing x
  waits_for_inventories at missing x did after (reveal_conflicts sum other d f e g) = let h = d.stage in cc
  waits_for_inventories at missing x did after (body_opposed sum b j other d f e g) = let h = d.stage in cc
  waits_for_inventories at missing x did after (thin_opposed b j other d f e g) = missing_none kinds.Inventory 3 v.run.kept (servers_in v) d.listing.inventories d.listing.kept missing x

  -- with no leaf for its commitment the server goes no further
  pub stuck_at_commit : (s : Sum) → InventoriesFit v → IsCommitDue v s → IsFree v (commitment_of v s) → (¬ HasLeaf v) → Stands v
  stuck_at_commit s fit at free leaf did after (commits sum d f l e g) = leaf l
  stuck_at_commit s fit at free leaf did after (reveals sum d f l e g) = leaf l
  stuck_at_commit s fit at free leaf did after (signs sum b d f l e g) = leaf l
  stuck_at_commit s fit at free leaf did after (signs_thin b d f l e g) = leaf l
  stuck_at_commit s fit at free leaf did after (certifies b x d f l e g) = let h = d.stage in let k = at.stage in cc
  stuck_at_commit s fit at free leaf did after (commit_conflicts sum other d f e g) = f.1 (free other f.0 ∙ commitment_one v s sum fit at d)
  stuck_at_commit s fit at free leaf did after (reveal_conflicts sum other d f e g) = let h = d.stage in let k = at.stage in cc
  stuck_at_commit s fit at free leaf did after (body_opposed sum b j other d f e g) = let h = d.stage in let k = at.stage in cc
  stuck_at_commit s fit at free leaf did after (thin_opposed b j other d f e g) = never_both v s.listed d.listed fit at.listing d.listing

-- what became of the commitment that is due is a step, or none is possible
pub commit_stepped : (old mid new : Parts) (before after : List Act) (sum : Sum) → InventoriesFit (live old) → IsCommitDue (live old) sum → (due : Due)
    → Became (commitment_of (live old) sum) stages.Committed old mid before after due → new ≡ with_sum_if due mid sum → Stepped old new before after (has_moved due)
commit_stepped old mid new before after sum fit at dues.Opposed b e =
    (_, b.3, commit_conflicts sum b.0 at b.1 refl (ap live (e ∙ ap (λ m. with_sum_if dues.Opposed m sum) b.2)))
commit_stepped old mid new before after sum fit at dues.Said b e =
    (_, b.3, commits sum at b.0 b.1 refl (ap live (e ∙ ap (λ m. with_sum_if dues.Said m sum) b.2)))
commit_stepped old mid new before after sum fit at dues.Stuck b e = (e ∙ b.2, b.3, stuck_at_commit (live old) sum fit at b.0 b.1)

fits_one : (kept : List SaidView) (j : ℕ) (inventory : Inventory) → All IsSaid kept → statement_of kept 3 j ≡ Some (kinds.Inventory inventory) → IsInventory inventory
fits_one kept j inventory all e =
    let found = statement_said kept 3 j (kinds.Inventory inventory) e in
    let is = All-find IsSaid (is_of 3 j) kept found.0 all found.1 in
    subst IsStatement found.2 is.fits.1.1

-- the limits of an inventory's format are those of the statement that is kept
pub inventories_fit : (v : ServerView) → All IsSaid v.run.kept → InventoriesFit v
inventories_fit v all inventories are k d lt =
    fits_one v.run.kept k (get_or inventories k d) all (are.say k (get_or inventories k d) (slice_get-get_or inventories k d lt))
