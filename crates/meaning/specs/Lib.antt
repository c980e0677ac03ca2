-- Document 01 as definitions, in its own order. Whoever believes these files needs no proof.
-- the rule book: numbers, records, tables
pub mod Format
-- rules as read: what the tables say, without indices
pub mod Reading
-- the twelve refusals, their order and places
pub mod Refusal
-- when a literal, a comparison and a rule body are true
pub mod Truth
-- the model, worked out
pub mod Model
-- what the entry returns, and what the room holds afterwards
pub mod Outcome
-- the model again, as a person reads it
pub mod Founded
-- what is promised
pub mod Demands
-- tables written as bytes
pub mod Writing
-- the examples to build against
pub mod Examples
