-- An entry point's contract has a clause for the answer and one for each lent slice, in the slices' order. Here they have names, by which proofs cite them.
pub answer_clause : {A B : Type 0} → A × B → A
answer_clause c = c.0

pub only_slice_clause : {A B : Type 0} → A × B → B
only_slice_clause c = c.1

pub first_slice_clause : {A B C : Type 0} → A × (B × C) → B
first_slice_clause c = c.1.0

pub second_slice_clause : {A B C : Type 0} → A × (B × C) → C
second_slice_clause c = c.1.1
