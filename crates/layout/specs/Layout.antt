-- The layout of a file as a value: one for each edition.
use Rattle.layout.specs.declared.Layout.{Layout}

-- Spec 5.1, 2.1: the edition's number, the bits of n in its header, and the most steps that it holds
abbrev pub edition1 : Layout
edition1 = record { edition = 1; bits = 14; limit = 16000 }
