-- What a statement of a kind is.
use Rattle.std.proofs.Common.{◌≡◌, ℕ, Bool, List, Some, refl, ap, arith}
use Rattle.dn_wire.specs.declared.ids.Round.{Round}
use Rattle.dn_record_types.specs.declared.body.Body.{Body}
use Rattle.dn_record_types.specs.declared.inventory.Inventory.{Inventory}
use Rattle.dn_record_types.specs.declared.statement.Statement.{Statement}
use Rattle.dn_record_types.specs.declared.statement.Statement.TheVariants as kinds
use Rattle.dn_records.specs.Records.{kind_byte}
use Rattle.dn_server.specs.Keeping.{round_of}

pub round_is : (a b : Round) → Some a ≡ Some b → a ≡ b
round_is a b e = cc

pub inventory_shape : (s : Statement) → kind_byte s ≡ 3 → (x : Inventory) × (s ≡ kinds.Inventory x)
inventory_shape (kinds.Submission r prev i d) e = absurd (omega arith)
inventory_shape (kinds.Receipt r i d t) e = absurd (omega arith)
inventory_shape (kinds.Inventory v) e = (v, refl)
inventory_shape (kinds.Commit r d) e = absurd (omega arith)
inventory_shape (kinds.Reveal r s) e = absurd (omega arith)
inventory_shape (kinds.Sign b) e = absurd (omega arith)
inventory_shape (kinds.PadBits r k bs) e = absurd (omega arith)
inventory_shape (kinds.Shown r s xs) e = absurd (omega arith)
inventory_shape (kinds.Accusation r s k) e = absurd (omega arith)
inventory_shape (kinds.Rebuttal r k j seed env) e = absurd (omega arith)
inventory_shape (kinds.Concede r k) e = absurd (omega arith)

pub sign_shape : (s : Statement) → kind_byte s ≡ 6 → (x : Body) × (s ≡ kinds.Sign x)
sign_shape (kinds.Submission r prev i d) e = absurd (omega arith)
sign_shape (kinds.Receipt r i d t) e = absurd (omega arith)
sign_shape (kinds.Inventory v) e = absurd (omega arith)
sign_shape (kinds.Commit r d) e = absurd (omega arith)
sign_shape (kinds.Reveal r s) e = absurd (omega arith)
sign_shape (kinds.Sign b) e = (b, refl)
sign_shape (kinds.PadBits r k bs) e = absurd (omega arith)
sign_shape (kinds.Shown r s xs) e = absurd (omega arith)
sign_shape (kinds.Accusation r s k) e = absurd (omega arith)
sign_shape (kinds.Rebuttal r k j seed env) e = absurd (omega arith)
sign_shape (kinds.Concede r k) e = absurd (omega arith)

pub commit_shape : (s : Statement) (q : Round) → kind_byte s ≡ 4 → round_of s ≡ Some q → (x : List ℕ) × (s ≡ kinds.Commit q x)
commit_shape (kinds.Submission r prev i d) q e h = absurd (omega arith)
commit_shape (kinds.Receipt r i d t) q e h = absurd (omega arith)
commit_shape (kinds.Inventory v) q e h = absurd (omega arith)
commit_shape (kinds.Commit r d) q e h = (d, ap (λ z. kinds.Commit z d) (round_is r q h))
commit_shape (kinds.Reveal r s) q e h = absurd (omega arith)
commit_shape (kinds.Sign b) q e h = absurd (omega arith)
commit_shape (kinds.PadBits r k bs) q e h = absurd (omega arith)
commit_shape (kinds.Shown r s xs) q e h = absurd (omega arith)
commit_shape (kinds.Accusation r s k) q e h = absurd (omega arith)
commit_shape (kinds.Rebuttal r k j seed env) q e h = absurd (omega arith)
commit_shape (kinds.Concede r k) q e h = absurd (omega arith)

pub reveal_shape : (s : Statement) (q : Round) → kind_byte s ≡ 5 → round_of s ≡ Some q → (x : List Bool) × (s ≡ kinds.Reveal q x)
reveal_shape (kinds.Submission r prev i d) q e h = absurd (omega arith)
reveal_shape (kinds.Receipt r i d t) q e h = absurd (omega arith)
reveal_shape (kinds.Inventory v) q e h = absurd (omega arith)
reveal_shape (kinds.Commit r d) q e h = absurd (omega arith)
reveal_shape (kinds.Reveal r s) q e h = (s, ap (λ z. kinds.Reveal z s) (round_is r q h))
reveal_shape (kinds.Sign b) q e h = absurd (omega arith)
reveal_shape (kinds.PadBits r k bs) q e h = absurd (omega arith)
reveal_shape (kinds.Shown r s xs) q e h = absurd (omega arith)
reveal_shape (kinds.Accusation r s k) q e h = absurd (omega arith)
reveal_shape (kinds.Rebuttal r k j seed env) q e h = absurd (omega arith)
reveal_shape (kinds.Concede r k) q e h = absurd (omega arith)
