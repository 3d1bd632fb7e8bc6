-- What the samples share: every definition opened under one name, texts as strings, and an answer as number and line.
use Rattle.std.specs.Prelude.{ℕ, List, [], ◌∷◌}
use Prim.Native.String.{String}
use Prim.Native.Char.{code}
use Rattle.model.specs.Answers.{Answer, guard}
use Rattle.model.specs.Answers.Answer.{ok, refused}
use Rattle.model.specs.Lines.{lines}
use Rattle.model.specs.Frames.{widths, number, total, split, decode_as, decode, frame_at, due_at, end_at, lone_of, lone_line, hex, hex_fields, line_of, stated_line, write_frame}
use Rattle.model.specs.Nets.{literal, gate, grow, bits, word, nets, eval}
use Rattle.model.specs.Lists.{header_at, gate_at, output_at, read_outputs, read_gates, read_list, read_both, read_lists, read_one}
use Rattle.model.specs.Evaluator.{evaluate}
use Rattle.model.specs.Clauses.{insert, join, without, holds, resolvent, and_clauses, xor_clauses, op_clauses, all_clauses}
use Rattle.model.specs.Miter.{shift, zs, ws, first_z, miter_gates, miter_vars, miter, first_z_clause}
use Rattle.model.specs.Steps.{added, resolved, step, step_at, replay}
use Rattle.model.specs.Checker.{begin, verdict_on, check, stored_all, judge, program}
use Rattle.model.specs.Forms.{same, same_form, fold_and, xor_cores, fold_xor, fold_op, literal_form, gate_form, leaves, net_forms, first_apart, differing}
use Rattle.model.specs.Engine.{provable}

-- `unfolding definitions` opens them all
unfoldable pub definitions : Unit {0}
unfolding guard lines widths number total split decode_as decode frame_at due_at end_at lone_of lone_line hex hex_fields line_of stated_line write_frame literal gate grow bits word nets eval header_at gate_at output_at read_outputs read_gates read_list read_both read_lists read_one evaluate insert join without holds resolvent and_clauses xor_clauses op_clauses all_clauses shift zs ws first_z miter_gates miter_vars miter first_z_clause added resolved step step_at replay begin verdict_on check stored_all judge program same same_form fold_and xor_cores fold_xor fold_op literal_form gate_form leaves net_forms first_apart differing provable
definitions = tt

-- a text's bytes
abbrev pub bytes : String → List ℕ
bytes String.[] = []
bytes (String.◌∷◌ c s) = code c ∷ bytes s

-- a refusal's number and line; 0 and 0 where there is none
abbrev pub says_of : {A : Type 0} → Answer A → ℕ × ℕ
says_of (ok a) = (0, 0)
says_of (refused number line) = (number, line)
