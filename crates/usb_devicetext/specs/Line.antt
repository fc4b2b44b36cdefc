-- Lines: what the words of each say.
use Rattle.std.specs.Prelude.{ℕ, List, [], ◌∷◌, Option, None}
use Rattle.std.specs.Option.{option_map, option_and_then}
use Rattle.std.specs.Result.{result_ok}
use Rattle.usb_descriptors.specs.Grammar.{reading}
use Rattle.usb_scripttext.specs.Words.{ascii_of}
use Rattle.usb_scripttext.specs.Number.{bytes_of, device_of}
use Rattle.usb_scripttext.specs.Script.{endpoint_answers_of}
use Rattle.usb_scripttext.specs.Words.{words_in}
use Rattle.usb_devicetext.specs.declared.line.DeskLine.{DeskLine}
use Rattle.usb_devicetext.specs.declared.line.DeskLine.TheVariants as line
use Rattle.usb_devicetext.specs.declared.statement.Statement.{Statement}
use Rattle.usb_devicetext.specs.declared.topic.Topic.{Topic}
use Rattle.usb_devicetext.specs.declared.topic.Topic.TheVariants.{Device, Script, Ids, Class, Descriptor, Text, Speed, Control, After, Leaves, Hidden, Anew, Lasts, Driver}
use Rattle.usb_devicetext.specs.Statement.{anew_of, class_of, control_of, descriptor_of, driver_of, gate_of, hidden_of, ids_of, lasts_of, leaves_of, speed_line_of, string_line_of}
use Rattle.usb_devicetext.specs.Topic.{topic_of}

-- a device: its number and its configuration descriptor
unfoldable pub device_of_words : List (List ℕ) → Option DeskLine
device_of_words (number ∷ descriptor ∷ []) =
    option_and_then (λ d. option_and_then (λ bytes. option_map (line.Device d bytes) (result_ok (reading bytes))) (bytes_of descriptor)) (device_of number)
device_of_words _ = None

-- what a line says of a device, by its first word and the words behind the device
abbrev pub statement_by : Topic → List (List ℕ) → Option Statement
statement_by Device words = None
statement_by Script words = None
statement_by Ids words = ids_of words
statement_by Class words = class_of words
statement_by Descriptor words = descriptor_of words
statement_by Text words = string_line_of words
statement_by Speed words = speed_line_of words
statement_by Control words = control_of words
statement_by After words = gate_of words
statement_by Leaves words = leaves_of words
statement_by Hidden words = hidden_of words
statement_by Anew words = anew_of words
statement_by Lasts words = lasts_of words
statement_by Driver words = driver_of words

unfoldable pub said_by : Topic → List (List ℕ) → Option DeskLine
said_by topic (dev ∷ words) = option_and_then (λ d. option_map (line.Says d) (statement_by topic words)) (device_of dev)
said_by topic [] = None

-- the line of a first word and the words behind it
abbrev pub line_by : Topic → List (List ℕ) → Option DeskLine
line_by Device words = device_of_words words
line_by Script words = option_map line.Script (endpoint_answers_of words)
line_by topic words = said_by topic words

-- the line of some words
abbrev pub line_of : List (List ℕ) → Option DeskLine
line_of [] = None
line_of (word ∷ words) = option_and_then (λ topic. line_by topic words) (topic_of word)

-- the line of a text of ASCII words between spaces
abbrev pub line_of_text : List ℕ → Option DeskLine
line_of_text text = option_and_then (λ ascii. line_of (words_in ascii)) (ascii_of text)
