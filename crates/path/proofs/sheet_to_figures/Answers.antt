-- Five calls in a row, three of them here: what each told its caller is handed to the one law of `Whole` for the return that follows.
use Rattle.std.proofs.Common.{◌≡◌, ◌∙◌, ◌≤◌, ℕ, get_or, refl, sym, ap, arith, rules, Err}
use lib.Seq.{length-take-le}
use Rattle.chain.specs.Chain.{most_amount, pairs}
use Rattle.chain.proofs.Pairs.{pairs_flat}
use Rattle.compile.proofs.Filled.{filled, compile_stops, compile_passes, compile_counts}
use Rattle.path.specs.Path.{lent}
use Rattle.path.proofs.Whole.{not_compiled, not_dispatched, read_alone, not_received, all_done}
use Rattle.path.proofs.sheet_to_figures.Goals as goal

pub returns-in_err-compiled : goal.returns-in_err-compiled
returns-in_err-compiled c =
    let a = c.args in
    let low : (j : ℕ) → get_or a.amounts.now j 0 ≤ most_amount = λ j. omega (arith, c.type_inv.amounts j) in
    let slices = lent a.steps.now a.outputs.now a.bytes.now a.received.now a.results.now a.scratch.now a.values.now a.figures.now in
    let made = c.in_err-compiled.ensures in
    let told : c.from_residual.result ≡ Err c.in_err-compiled.field-0.0 = search rules in
    let law =
    not_compiled a.p a.q a.amounts.now a.method a.k low slices a.m a.bases.now _ _ made.steps_after made.outputs_after _ _
    (compile_stops a.p a.q a.amounts.now a.method a.k a.steps.now a.outputs.now _ _ made.result_value) in
    record { result_value = rw told law.0; figures_after = law.1.0; demand3 = rw told law.1.1 }

pub overflow_mul-sent : goal.overflow_mul-sent
overflow_mul-sent c =
    let a = c.args in
    let low : (j : ℕ) → get_or a.amounts.now j 0 ≤ most_amount = λ j. omega (arith, c.type_inv.amounts j) in
    let made = c.in_ok-compiled.ensures in
    let front = filled a.p a.q a.amounts.now a.method a.k a.steps.now a.outputs.now _ made.result_value low _ _ made.steps_after made.outputs_after in
    omega (arith, front.few)

pub slice_bounds-sent-end : goal.slice_bounds-sent-end
slice_bounds-sent-end c =
    let a = c.args in
    let low : (j : ℕ) → get_or a.amounts.now j 0 ≤ most_amount = λ j. omega (arith, c.type_inv.amounts j) in
    let made = c.in_ok-compiled.ensures in
    let front = filled a.p a.q a.amounts.now a.method a.k a.steps.now a.outputs.now _ made.result_value low _ _ made.steps_after made.outputs_after in
    front.steps_room

pub slice_bounds-sent-end-2 : goal.slice_bounds-sent-end-2
slice_bounds-sent-end-2 c =
    let a = c.args in
    let low : (j : ℕ) → get_or a.amounts.now j 0 ≤ most_amount = λ j. omega (arith, c.type_inv.amounts j) in
    let made = c.in_ok-compiled.ensures in
    let front = filled a.p a.q a.amounts.now a.method a.k a.steps.now a.outputs.now _ made.result_value low _ _ made.steps_after made.outputs_after in
    sym (length-take-le _ _ front.steps_room)

pub slice_bounds-dispatch-end : goal.slice_bounds-dispatch-end
slice_bounds-dispatch-end c =
    let a = c.args in
    let low : (j : ℕ) → get_or a.amounts.now j 0 ≤ most_amount = λ j. omega (arith, c.type_inv.amounts j) in
    let made = c.in_ok-compiled.ensures in
    let front = filled a.p a.q a.amounts.now a.method a.k a.steps.now a.outputs.now _ made.result_value low _ _ made.steps_after made.outputs_after in
    front.outputs_room

pub slice_bounds-dispatch-end-2 : goal.slice_bounds-dispatch-end-2
slice_bounds-dispatch-end-2 c =
    let a = c.args in
    let low : (j : ℕ) → get_or a.amounts.now j 0 ≤ most_amount = λ j. omega (arith, c.type_inv.amounts j) in
    let made = c.in_ok-compiled.ensures in
    let front = filled a.p a.q a.amounts.now a.method a.k a.steps.now a.outputs.now _ made.result_value low _ _ made.steps_after made.outputs_after in
    sym (length-take-le _ _ front.outputs_room)

pub returns-in_err-read : goal.returns-in_err-read
returns-in_err-read c =
    let a = c.args in
    let low : (j : ℕ) → get_or a.amounts.now j 0 ≤ most_amount = λ j. omega (arith, c.type_inv.amounts j) in
    let made = c.in_ok-compiled.ensures in
    let front = filled a.p a.q a.amounts.now a.method a.k a.steps.now a.outputs.now _ made.result_value low _ _ made.steps_after made.outputs_after in
    let slices = lent a.steps.now a.outputs.now a.bytes.now a.received.now a.results.now a.scratch.now a.values.now a.figures.now in
    let accepted = compile_passes a.p a.q a.amounts.now a.method a.k a.steps.now a.outputs.now _ made.result_value in
    let told : c.from_residual-in_err-read.result ≡ Err c.in_err-read.field-0.0 = search rules in
    let law =
    not_dispatched a.p a.q a.amounts.now a.method a.k low slices a.m a.bases.now _ _ made.steps_after made.outputs_after accepted _ _ front.steps_front
    front.outputs_front _ _ _ _ c.in_err-read.ensures _ _ refl in
    record { result_value = rw told law.0; figures_after = law.1.0; demand3 = rw told law.1.1 }

pub overflow_mul-read : goal.overflow_mul-read
overflow_mul-read c =
    let a = c.args in
    let low : (j : ℕ) → get_or a.amounts.now j 0 ≤ most_amount = λ j. omega (arith, c.type_inv.amounts j) in
    let made = c.in_ok-compiled.ensures in
    let front = filled a.p a.q a.amounts.now a.method a.k a.steps.now a.outputs.now _ made.result_value low _ _ made.steps_after made.outputs_after in
    let slices = lent a.steps.now a.outputs.now a.bytes.now a.received.now a.results.now a.scratch.now a.values.now a.figures.now in
    let accepted = compile_passes a.p a.q a.amounts.now a.method a.k a.steps.now a.outputs.now _ made.result_value in
    let got =
    read_alone a.p a.q a.amounts.now a.method a.k low slices a.m a.bases.now _ _ made.steps_after made.outputs_after accepted _ _ front.steps_front
    front.outputs_front _ _ _ _ c.in_ok-read.ensures _ _ _ refl in
    omega (arith, got.few)

pub slice_bounds-receive-end : goal.slice_bounds-receive-end
slice_bounds-receive-end c =
    let a = c.args in
    let low : (j : ℕ) → get_or a.amounts.now j 0 ≤ most_amount = λ j. omega (arith, c.type_inv.amounts j) in
    let made = c.in_ok-compiled.ensures in
    let front = filled a.p a.q a.amounts.now a.method a.k a.steps.now a.outputs.now _ made.result_value low _ _ made.steps_after made.outputs_after in
    let slices = lent a.steps.now a.outputs.now a.bytes.now a.received.now a.results.now a.scratch.now a.values.now a.figures.now in
    let accepted = compile_passes a.p a.q a.amounts.now a.method a.k a.steps.now a.outputs.now _ made.result_value in
    let got =
    read_alone a.p a.q a.amounts.now a.method a.k low slices a.m a.bases.now _ _ made.steps_after made.outputs_after accepted _ _ front.steps_front
    front.outputs_front _ _ _ _ c.in_ok-read.ensures _ _ _ refl in
    got.steps_room

pub slice_bounds-receive-end-2 : goal.slice_bounds-receive-end-2
slice_bounds-receive-end-2 c =
    let a = c.args in
    let low : (j : ℕ) → get_or a.amounts.now j 0 ≤ most_amount = λ j. omega (arith, c.type_inv.amounts j) in
    let made = c.in_ok-compiled.ensures in
    let front = filled a.p a.q a.amounts.now a.method a.k a.steps.now a.outputs.now _ made.result_value low _ _ made.steps_after made.outputs_after in
    let slices = lent a.steps.now a.outputs.now a.bytes.now a.received.now a.results.now a.scratch.now a.values.now a.figures.now in
    let accepted = compile_passes a.p a.q a.amounts.now a.method a.k a.steps.now a.outputs.now _ made.result_value in
    let got =
    read_alone a.p a.q a.amounts.now a.method a.k low slices a.m a.bases.now _ _ made.steps_after made.outputs_after accepted _ _ front.steps_front
    front.outputs_front _ _ _ _ c.in_ok-read.ensures _ _ _ refl in
    sym (length-take-le _ _ got.steps_room)

pub slice_bounds-receive-end-3 : goal.slice_bounds-receive-end-3
slice_bounds-receive-end-3 c =
    let a = c.args in
    let low : (j : ℕ) → get_or a.amounts.now j 0 ≤ most_amount = λ j. omega (arith, c.type_inv.amounts j) in
    let made = c.in_ok-compiled.ensures in
    let front = filled a.p a.q a.amounts.now a.method a.k a.steps.now a.outputs.now _ made.result_value low _ _ made.steps_after made.outputs_after in
    let slices = lent a.steps.now a.outputs.now a.bytes.now a.received.now a.results.now a.scratch.now a.values.now a.figures.now in
    let accepted = compile_passes a.p a.q a.amounts.now a.method a.k a.steps.now a.outputs.now _ made.result_value in
    let got =
    read_alone a.p a.q a.amounts.now a.method a.k low slices a.m a.bases.now _ _ made.steps_after made.outputs_after accepted _ _ front.steps_front
    front.outputs_front _ _ _ _ c.in_ok-read.ensures _ _ _ refl in
    got.outputs_room

pub slice_bounds-receive-end-4 : goal.slice_bounds-receive-end-4
slice_bounds-receive-end-4 c =
    let a = c.args in
    let low : (j : ℕ) → get_or a.amounts.now j 0 ≤ most_amount = λ j. omega (arith, c.type_inv.amounts j) in
    let made = c.in_ok-compiled.ensures in
    let front = filled a.p a.q a.amounts.now a.method a.k a.steps.now a.outputs.now _ made.result_value low _ _ made.steps_after made.outputs_after in
    let slices = lent a.steps.now a.outputs.now a.bytes.now a.received.now a.results.now a.scratch.now a.values.now a.figures.now in
    let accepted = compile_passes a.p a.q a.amounts.now a.method a.k a.steps.now a.outputs.now _ made.result_value in
    let got =
    read_alone a.p a.q a.amounts.now a.method a.k low slices a.m a.bases.now _ _ made.steps_after made.outputs_after accepted _ _ front.steps_front
    front.outputs_front _ _ _ _ c.in_ok-read.ensures _ _ _ refl in
    sym (length-take-le _ _ got.outputs_room)

pub returns-in_err-made : goal.returns-in_err-made
returns-in_err-made c =
    let a = c.args in
    let low : (j : ℕ) → get_or a.amounts.now j 0 ≤ most_amount = λ j. omega (arith, c.type_inv.amounts j) in
    let made = c.in_ok-compiled.ensures in
    let front = filled a.p a.q a.amounts.now a.method a.k a.steps.now a.outputs.now _ made.result_value low _ _ made.steps_after made.outputs_after in
    let slices = lent a.steps.now a.outputs.now a.bytes.now a.received.now a.results.now a.scratch.now a.values.now a.figures.now in
    let accepted = compile_passes a.p a.q a.amounts.now a.method a.k a.steps.now a.outputs.now _ made.result_value in
    let got =
    read_alone a.p a.q a.amounts.now a.method a.k low slices a.m a.bases.now _ _ made.steps_after made.outputs_after accepted _ _ front.steps_front
    front.outputs_front _ _ _ _ c.in_ok-read.ensures _ _ _ refl in
    let counted = compile_counts a.p a.q a.amounts.now a.method a.k a.steps.now a.outputs.now _ made.result_value low in
    let told : c.from_residual-in_err-made.result ≡ Err c.in_err-made.field-0.0 = search rules in
    let law =
    not_received a.p a.q a.amounts.now a.method a.k low slices a.m a.bases.now _ _ made.steps_after made.outputs_after accepted _ _ front.steps_front
    front.outputs_front _ _ _ _ c.in_ok-read.ensures _ _ _ refl _ counted _ _ got.columns (ap pairs got.steps_front ∙ pairs_flat _)
    got.outputs_front _ _ _ _ c.in_err-made.ensures _ _ refl in
    record { result_value = rw told law.0; figures_after = law.1.0; demand3 = rw told law.1.1 }

pub returns : goal.returns
returns c =
    let a = c.args in
    let low : (j : ℕ) → get_or a.amounts.now j 0 ≤ most_amount = λ j. omega (arith, c.type_inv.amounts j) in
    let made = c.in_ok-compiled.ensures in
    let front = filled a.p a.q a.amounts.now a.method a.k a.steps.now a.outputs.now _ made.result_value low _ _ made.steps_after made.outputs_after in
    let slices = lent a.steps.now a.outputs.now a.bytes.now a.received.now a.results.now a.scratch.now a.values.now a.figures.now in
    let accepted = compile_passes a.p a.q a.amounts.now a.method a.k a.steps.now a.outputs.now _ made.result_value in
    let got =
    read_alone a.p a.q a.amounts.now a.method a.k low slices a.m a.bases.now _ _ made.steps_after made.outputs_after accepted _ _ front.steps_front
    front.outputs_front _ _ _ _ c.in_ok-read.ensures _ _ _ refl in
    let counted = compile_counts a.p a.q a.amounts.now a.method a.k a.steps.now a.outputs.now _ made.result_value low in
    let law =
    all_done a.p a.q a.amounts.now a.method a.k low slices a.m a.bases.now _ _ made.steps_after made.outputs_after accepted _ _ front.steps_front
    front.outputs_front _ _ _ _ c.in_ok-read.ensures _ _ _ refl _ counted _ _ got.columns (ap pairs got.steps_front ∙ pairs_flat _)
    got.outputs_front _ _ _ _ c.in_ok-made.ensures _ refl in
    record { result_value = law.0; figures_after = law.1.0; demand3 = law.1.1 }
