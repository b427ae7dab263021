-- The words that the proofs of this crate have in common.
pub use Rattle.std.proofs.Common.{◌^◌, arith, ◌≡◌, length, All, subst, ◌∙◌, take, [], ◌<◌, ℕ}
pub use Rattle.std.proofs.lemmas.List.{length_push, take_all, get_or_default}
pub use Rattle.std.proofs.lemmas.List.Elements.{All-push, All-more}
pub use Rattle.std.specs.Prelude.{nat_abs}
pub use Rattle.corners.specs.CornerLists.{AreParallel, AreAlike, constraint_at, list_of}
pub use Rattle.cts_model.specs.Vocabulary.{IsBelow, IsSatisfied, IsSmallConstraint, arrival_of}
