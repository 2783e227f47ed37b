-- The line that each answer prints.
use Rattle.std.specs.Prelude.{ℕ, ◌*◌, Bool, cond, List, ◌++◌, take, ℤ, vec_items, codes, decimal, Ok, Err, Option, Result}
use Rattle.std.specs.Fmt.{signed_decimal}
use Rattle.std.specs.List.{flat_map}
use Rattle.std.specs.declared.option.Option.TheVariants as option
use Rattle.faults.specs.declared.fault.Fault.{Fault}
use Rattle.faults.specs.Faults.{layer_number, fault_number, fault_layer, fault_place}
use Rattle.faults.specs.Words.{fault_words}
use Rattle.plates.specs.declared.calls.Call.{Call}
use Rattle.plates.specs.declared.calls.Call.TheVariants.{Lay, Lease, Settle, Surrender, Recall, Preview, Read, Clear}
use Rattle.plates.specs.declared.calls.Answer.{Answer}
use Rattle.plates.specs.declared.calls.Answer.TheVariants.{Done, Leased, Settled, Recalled, CellRead}
use Rattle.plates.specs.declared.calls.Turn.{Turn}

-- A fault: its number, its layer, its place and its words.
abbrev pub fault_line : Fault → List ℕ
fault_line f =
    codes "fault " ++ (decimal (fault_number f) ++ (codes " " ++ (decimal (layer_number (fault_layer f))
    ++ (codes " " ++ (decimal (fault_place f) ++ (codes " " ++ (fault_words f ++ codes "\n")))))))

-- A number after a space.
abbrev pub after_a_space : ℤ → List ℕ
after_a_space x = codes " " ++ signed_decimal x

-- The numbers that a preview shows.
abbrev pub preview_line : List ℤ → List ℕ
preview_line xs = (codes "preview" ++ flat_map after_a_space xs) ++ codes "\n"

-- A call that was done: a preview shows the first height × width numbers of its output.
abbrev pub done_line : Call → List ℕ
done_line (Lay q xs) = codes "ok\n"
done_line (Lease first h w) = codes "ok\n"
done_line (Settle plate serial xs scratch) = codes "ok\n"
done_line (Surrender plate serial) = codes "ok\n"
done_line Recall = codes "ok\n"
done_line (Preview card first h w scratch out) = preview_line (take (h * w) (vec_items out))
done_line (Read card at) = codes "ok\n"
done_line Clear = codes "ok\n"

abbrev pub recalled_line : Option ℕ → List ℕ
recalled_line option.None = codes "recalled none\n"
recalled_line (option.Some serial) = codes "recalled " ++ (decimal serial ++ codes "\n")

abbrev pub bit_words : Bool → List ℕ
bit_words b = cond b (codes " set\n") (codes " unset\n")

abbrev pub cell_line : ℤ → Bool → List ℕ
cell_line x b = (codes "cell " ++ signed_decimal x) ++ bit_words b

-- The line of an accepted call and its answer.
abbrev pub accepted_line : Call → Answer → List ℕ
accepted_line c Done = done_line c
accepted_line c (Leased plate serial) = codes "lease " ++ (decimal plate ++ (codes " " ++ (decimal serial ++ codes "\n")))
accepted_line c (Settled n) = codes "settled " ++ (decimal n ++ codes "\n")
accepted_line c (Recalled o) = recalled_line o
accepted_line c (CellRead x) = cell_line x.number x.bit

-- The line of a call and what stands beside it. In a list that was run no answer is pending.
abbrev pub answer_line : Call → Option (Result Answer Fault) → List ℕ
answer_line c option.None = codes "pending\n"
answer_line c (option.Some (Err f)) = fault_line f
answer_line c (option.Some (Ok a)) = accepted_line c a

abbrev pub line_of : Turn → List ℕ
line_of t = answer_line t.call t.answer

-- The lines of a list of calls, in their order.
abbrev pub answer_lines : List Turn → List ℕ
answer_lines ts = flat_map line_of ts
