-- A line that is read as the one that is due, and why it is not the frame that is due: the line is refused, or it is of another kind.
use Prim.Native.Nat.{ℕ}
use mathlib.Core.Path.{◌≡◌, refl}
use mathlib.Core.List.{List}
use Rattle.std.specs.Prelude.{Option, Some, None}
use Rattle.model.specs.Frames as model
use Rattle.model.specs.Frames.{output_kind, resolve_kind, widths}
use Rattle.frame.specs.declared.kinds.Kind.{Kind}
use Rattle.frame.specs.Kinds.{byte_of, HasKind, Unframed}
use Rattle.frame.specs.declared.Resolve.{Resolve}
use Rattle.frame.specs.Fields.{OutputSays, ResolveSays}
use Rattle.frame.specs.Rows.{Lacks, output_frame, resolve_frame, LiteralSays, ResolvesSay}
use Rattle.frame.proofs.KindLaws.{found_framed, only}

module _ (text : List ℕ) where
  pub lacks_refused : Unframed text → (f : model.Frame) → Lacks text f
  lacks_refused u f line next rest e = found_framed text line e u

  pub lacks_other : (due k : Kind) → (k ≡ due → ⊥) → HasKind text (byte_of k) → (f : model.Frame) → f.kind ≡ byte_of due → Lacks text f
  lacks_other due k other s f is line next rest e = other (some_injective (only text line e due is (Some k) s))
    where
      some_injective : {A : Type 0} {x y : A} → Some x ≡ Some y → x ≡ y
      some_injective e = cc

  -- an output's literal, and a resolve's clauses with its pivot
  pub literal_says : HasKind text output_kind → (r : Option ℕ) → OutputSays text r → LiteralSays text r
  unfolding widths
  literal_says k (Some l) s = s output_kind k refl
  literal_says k None s = λ l. lacks_refused (s output_kind k refl) (output_frame l)

  pub resolve_says : HasKind text resolve_kind → (r : Option Resolve) → ResolveSays text r → ResolvesSay text r
  unfolding widths
  resolve_says k (Some r) s = s resolve_kind k refl
  resolve_says k None s = λ r. lacks_refused (s resolve_kind k refl) (resolve_frame r)
